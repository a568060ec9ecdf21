use Rattle.std.proofs.Common.{◌≡◌, ◌≤◌, ◌<◌, ◌+◌, ◌++◌, ◌⊎◌, ◌∷◌, get_or, set, take, length, drop, inl, inr, refl, sym, ap, ap₂, ◌∙◌, append_assoc, arith}
use Rattle.std.specs.Ordering.{nat_cmp}
use Rattle.std.proofs.lemmas.List.{get_or_default, length-set, take_more_set}
use Rattle.poly_terms.proofs.Merging.{rest_is, ends, step_equal, step_greater, step_less}
use Rattle.poly_terms.proofs.monomial.join_few.Goals as goal
use Rattle.poly_terms.proofs.monomial.join_few.Goals.{then-loop-i-test+else-j-right, else-loop-i-test}

pub returns-clause-items : goal.returns-clause-items
returns-clause-items c =
    let past : (length c.args.left.now ≤ c.loop-i.i) ⊎ (length c.args.right.now ≤ c.loop-i.j) =
    elim c.loop-i-test.branch [ then-loop-i-test+else-j-right w ↦ inr (omega arith) | else-loop-i-test w ↦ inl (omega arith) ] in
    let xs = drop c.loop-i.i c.args.left.now in
    let ys = drop c.loop-i.j c.args.right.now in
    let before = take c.loop-i.count c.loop-i.both in
    c.put_all.ensures.items ∙
    ap₂ ◌++◌ (c.put_all-with_left.ensures.items ∙ ap (λ z. before ++ z) (rest_is c.args.left.now c.loop-i.i)) (rest_is c.args.right.now c.loop-i.j) ∙
    append_assoc before xs ys ∙
    ap (λ z. before ++ z) (ends nat_cmp (λ x y rest. x ∷ rest) c.args.left.now c.args.right.now c.loop-i.i c.loop-i.j past) ∙ c.loop-i.invariant.same

pub loop-i-preserved-in-Less : goal.loop-i-preserved-in-Less
loop-i-preserved-in-Less c =
    let xs = c.args.left.now in
    let ys = c.args.right.now in
    let i = c.loop-i.i in
    let j = c.loop-i.j in
    let count = c.loop-i.count in
    let both = c.loop-i.both in
    let x = get_or xs i 0 in
    let y = get_or ys j 0 in
    let low = c.loop-i-test.true in
    let short = c.if-j-right.true in
    let size : length both ≡ 8 = c.loop-i.invariant.size in
    let within : count < length both = omega (arith, low, short, size, c.loop-i.invariant.few, c.requires) in
    record {
      left = omega (arith, low, c.loop-i.invariant.left);
      right = omega (arith, short, c.loop-i.invariant.right);
      size = simp length-set size;
      few = omega (arith, c.loop-i.invariant.few);
      same =
          step_less nat_cmp (λ x y rest. x ∷ rest) xs ys (take count both) (take (count + 1) (set both count x)) _ i j x y low short (get_or_default xs i 0 x low) (get_or_default ys j 0 y short) c.loop-i.invariant.same
          (sym c.cmp.ensures ∙ c.in-Less.is) (take_more_set both count x within);
    }

pub loop-i-preserved-in-Greater : goal.loop-i-preserved-in-Greater
loop-i-preserved-in-Greater c =
    let xs = c.args.left.now in
    let ys = c.args.right.now in
    let i = c.loop-i.i in
    let j = c.loop-i.j in
    let count = c.loop-i.count in
    let both = c.loop-i.both in
    let x = get_or xs i 0 in
    let y = get_or ys j 0 in
    let low = c.loop-i-test.true in
    let short = c.if-j-right.true in
    let size : length both ≡ 8 = c.loop-i.invariant.size in
    let within : count < length both = omega (arith, low, short, size, c.loop-i.invariant.few, c.requires) in
    record {
      left = omega (arith, low, c.loop-i.invariant.left);
      right = omega (arith, short, c.loop-i.invariant.right);
      size = simp length-set size;
      few = omega (arith, c.loop-i.invariant.few);
      same =
          step_greater nat_cmp (λ x y rest. x ∷ rest) xs ys (take count both) (take (count + 1) (set both count y)) _ i j x y low short (get_or_default xs i 0 x low) (get_or_default ys j 0 y short) c.loop-i.invariant.same
          (sym c.cmp.ensures ∙ c.in-Greater.is) (take_more_set both count y within);
    }

pub loop-i-preserved : goal.loop-i-preserved
loop-i-preserved c =
    let xs = c.args.left.now in
    let ys = c.args.right.now in
    let i = c.loop-i.i in
    let j = c.loop-i.j in
    let count = c.loop-i.count in
    let both = c.loop-i.both in
    let x = get_or xs i 0 in
    let y = get_or ys j 0 in
    let low = c.loop-i-test.true in
    let short = c.if-j-right.true in
    let size : length both ≡ 8 = c.loop-i.invariant.size in
    let within : count < length both = omega (arith, low, short, size, c.loop-i.invariant.few, c.requires) in
    record {
      left = omega (arith, low, c.loop-i.invariant.left);
      right = omega (arith, short, c.loop-i.invariant.right);
      size = simp length-set size;
      few = omega (arith, c.loop-i.invariant.few);
      same =
          step_equal nat_cmp (λ x y rest. x ∷ rest) xs ys (take count both) (take (count + 1) (set both count x)) _ i j x y low short (get_or_default xs i 0 x low) (get_or_default ys j 0 y short) c.loop-i.invariant.same
          (λ rest. refl) (sym c.cmp.ensures ∙ c.in-Equal.is) (take_more_set both count x within);
    }
