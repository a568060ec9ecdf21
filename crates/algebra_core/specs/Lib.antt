-- What contracts cite of polynomials and of algebra certificates. Reading is a function that laws tie to the relations of Text and
-- Refusal; the other files say what things are.
pub mod Polynomials
pub mod NormalForm
pub mod AlgebraLines
pub mod Ledgers
pub mod InRange
pub mod Agreement
pub mod Likeness
pub mod Text
pub mod Reading
pub mod Refusal
pub mod Certificates
pub mod Soundness
