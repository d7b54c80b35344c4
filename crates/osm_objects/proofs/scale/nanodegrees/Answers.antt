use Rattle.std.proofs.Common.{◌≡◌, ℕ, ◌*◌, ◌≤◌, ◌^◌, ℤ, pos, negsuc, neg_ℤ, ◌≤ℤ◌, ◌+ℤ◌, ◌*ℤ◌, FitsSigned, to_z, of_z, w64, arith, ap, ◌∙◌, lit<}
use Rattle.std.specs.Int.{w128}
use Rattle.std.specs.Prelude.{unsigned_abs}
use Rattle.std.proofs.lemmas.Int.{to_z-of_z, ints, fits_signed_mul, unsigned_abs-mul}
use Rattle.std.proofs.Math.Nat.{mul-le-mul}
use Rattle.osm_objects.proofs.scale.nanodegrees.Goals as goal

abs64 : (z : ℤ) → FitsSigned w64 z → unsigned_abs z ≤ 2 ^ 63
abs64 (pos n) f = omega (arith, f.sfits)
abs64 (negsuc n) f = omega (arith, f.sfits)

wide : (z : ℤ) → FitsSigned w64 z → FitsSigned w128 z
wide (pos n) f = record { sfits = omega (arith, f.sfits) }
wide (negsuc n) f = record { sfits = omega (arith, f.sfits) }

low : (z : ℤ) (n : ℕ) → unsigned_abs z ≤ n → neg_ℤ (pos n) ≤ℤ z
low (pos a) n h = omega (arith, ints)
low (negsuc a) n h = omega (arith, ints)

high : (z : ℤ) (n : ℕ) → unsigned_abs z ≤ n → z ≤ℤ pos n
high (pos a) n h = omega (arith, ints)
high (negsuc a) n h = omega (arith, ints)

product : (a b : ℤ) → FitsSigned w64 a → FitsSigned w64 b → FitsSigned w128 (a *ℤ b)
product a b f g = fits_signed_mul w128 a b (2 ^ 63) (2 ^ 63) (abs64 a f) (abs64 b g) (lit< tt)

product_abs : (a b : ℤ) → FitsSigned w64 a → FitsSigned w64 b → unsigned_abs (a *ℤ b) ≤ 2 ^ 126
product_abs a b f g = rw (unsigned_abs-mul a b) (bound (unsigned_abs a) (unsigned_abs b) (abs64 a f) (abs64 b g))
  where
    bound : (m n : ℕ) → m ≤ 2 ^ 63 → n ≤ 2 ^ 63 → m * n ≤ 2 ^ 126
    bound m n h k = omega (arith, mul-le-mul h k)

summed : (o p : ℤ) → unsigned_abs o ≤ 2 ^ 63 → unsigned_abs p ≤ 2 ^ 126 → FitsSigned w128 (o +ℤ p)
summed o p h k = omega (arith, ints, low o (2 ^ 63) h, high o (2 ^ 63) h, low p (2 ^ 126) k, high p (2 ^ 126) k)

total : (a b o : ℤ) → FitsSigned w64 a → FitsSigned w64 b → FitsSigned w64 o → FitsSigned w128 (o +ℤ (a *ℤ b))
total a b o f g k = summed o (a *ℤ b) (abs64 o k) (product_abs a b f g)

-- a number of 64 bits, as one of 128
widened : (z made : ℤ) → made ≡ to_z w64 (of_z w64 z) → FitsSigned w64 z → to_z w128 (of_z w128 made) ≡ z
widened z made e f =
    let same : made ≡ z = e ∙ to_z-of_z w64 z f in
    ap (λ y. to_z w128 (of_z w128 y)) same ∙ to_z-of_z w128 z (wide z f)

multiplied : (a b u v : ℤ) → u ≡ a → v ≡ b → FitsSigned w64 a → FitsSigned w64 b → to_z w128 (of_z w128 (u *ℤ v)) ≡ a *ℤ b
multiplied a b u v p q f g =
    ap (λ y. to_z w128 (of_z w128 (y *ℤ v))) p ∙ ap (λ y. to_z w128 (of_z w128 (a *ℤ y))) q ∙ to_z-of_z w128 (a *ℤ b) (product a b f g)

pub overflow_add-result : goal.overflow_add-result
overflow_add-result c =
    let a = widened c.args.granularity _ c.from.ensures c.ranges.granularity in
    let b = widened c.args.number _ c.from-2.ensures c.ranges.number in
    let o = widened c.args.offset _ c.from-3.ensures c.ranges.offset in
    let m = multiplied _ _ _ _ a b c.ranges.granularity c.ranges.number in
    rw (m, o) (total c.args.granularity c.args.number c.args.offset c.ranges.granularity c.ranges.number c.ranges.offset)

pub returns : goal.returns
returns c =
    let a = widened c.args.granularity _ c.from.ensures c.ranges.granularity in
    let b = widened c.args.number _ c.from-2.ensures c.ranges.number in
    let o = widened c.args.offset _ c.from-3.ensures c.ranges.offset in
    let m = multiplied _ _ _ _ a b c.ranges.granularity c.ranges.number in
    rw (m, o) (to_z-of_z w128 _ (total c.args.granularity c.args.number c.args.offset c.ranges.granularity c.ranges.number c.ranges.offset))
