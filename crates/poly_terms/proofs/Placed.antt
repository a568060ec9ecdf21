-- Lists that are sorted as they stand.
use Rattle.std.proofs.Common.{ℕ, refl}
use Rattle.poly_terms.specs.Entries.{IsOrderly, IsSortedSum, Sum}

-- what is sorted as it stands is gathered
pub gathered_itself : (m : ℕ) (es : Sum) → IsOrderly m es → IsSortedSum m es es
gathered_itself m es o = record { sums = λ f. refl; order = o.order; coefficients = o.coefficients; numbers = λ n h. h }
