-- Fields of bits as quotients and remainders.
use Rattle.std.proofs.Common.{◌≡◌, ℕ, zero, suc, ◌+◌, ◌-◌, ◌*◌, ◌/◌, ◌%◌, ◌^◌, ◌<◌, ◌≤◌, bit_and, bit_or, refl, sym, ap, ◌∙◌, arith}
use Rattle.std.proofs.lemmas.Nat.{pow_pos, pow-add, shr_split, shr-shr, mod_below, and_mask, and-not, and_comm, or_comm, and_block, or_block, or_shifted, div-mul-add, shr_high, mod_low, shl_whole, field_of, mod-pow-add}
use Rattle.bit_words.specs.Bits.{bits_of, with_bits}

div_ones : (n p q : ℕ) → 0 < p → 0 < q → p * q ≡ n + 1 → n / p + 1 ≡ q
div_ones n p zero hp hq e = absurd (omega arith)
div_ones n p (suc q) hp hq e =
    let split : n ≡ q * p + (p - 1) = omega arith in
    rw split (omega (arith, div-mul-add q p (p - 1) (omega arith)))

pub ones_are : (w : ℕ) → w ≤ 64 → 18446744073709551615 / 2 ^ (64 - w) + 1 ≡ 2 ^ w
ones_are w le =
    let whole : 2 ^ (64 - w) * 2 ^ w ≡ 18446744073709551616 = (let k : (64 - w) + w ≡ 64 = omega arith in sym (pow-add 2 (64 - w) w) ∙ ap (λ k. 2 ^ k) k) in
    div_ones 18446744073709551615 (2 ^ (64 - w)) (2 ^ w) (pow_pos (64 - w)) (pow_pos w) whole

pub get_is : (word at width mask : ℕ) → mask + 1 ≡ 2 ^ width → bit_and (word / 2 ^ at) mask ≡ bits_of word at width
get_is word at width mask e =
    let m : mask ≡ 2 ^ width - 1 = omega arith in
    rw m (and_mask (word / 2 ^ at) width)

-- a word in three parts
split : (word at width : ℕ) → word ≡ (word / 2 ^ (at + width) * 2 ^ width + word / 2 ^ at % 2 ^ width) * 2 ^ at + word % 2 ^ at
split word at width =
    let a = shr_split word at in
    let b : word / 2 ^ at / 2 ^ width * 2 ^ width + word / 2 ^ at % 2 ^ width ≡ word / 2 ^ at = shr_split (word / 2 ^ at) width in
    let c : word / 2 ^ (at + width) * 2 ^ width + word / 2 ^ at % 2 ^ width ≡ word / 2 ^ at = rw (← shr-shr word at width) b in
    rw c (sym a)

-- what the masked word is
masked : (word at width mask : ℕ) → word < 2 ^ 64 → mask + 1 ≡ 2 ^ width → mask * 2 ^ at < 2 ^ 64
    → bit_and word (2 ^ 64 - 1 - mask * 2 ^ at) ≡ word / 2 ^ (at + width) * 2 ^ width * 2 ^ at + word % 2 ^ at
masked word at width mask fits e small =
    let m : mask ≡ 2 ^ width - 1 = omega arith in
    let n = and-not 64 (mask * 2 ^ at) word small fits in
    let field : bit_and (mask * 2 ^ at) word ≡ word / 2 ^ at % 2 ^ width * 2 ^ at =
    (let zero_more : mask * 2 ^ at + 0 ≡ mask * 2 ^ at = omega arith in
    let k : bit_and (mask * 2 ^ at + 0) (word / 2 ^ at * 2 ^ at + word % 2 ^ at) ≡ bit_and mask (word / 2 ^ at) * 2 ^ at + bit_and 0 (word % 2 ^ at) = and_block at mask (word / 2 ^ at) 0 (word % 2 ^ at) (pow_pos at) (mod_below word (2 ^ at) (pow_pos at)) in
    let k2 : bit_and mask (word / 2 ^ at) ≡ word / 2 ^ at % 2 ^ width = and_comm mask (word / 2 ^ at) ∙ get_is word at width mask e in
    let w : word / 2 ^ at * 2 ^ at + word % 2 ^ at ≡ word = shr_split word at in
    let k3 : bit_and (mask * 2 ^ at) word ≡ bit_and (mask * 2 ^ at + 0) (word / 2 ^ at * 2 ^ at + word % 2 ^ at) = ap (λ x. bit_and x word) (sym zero_more) ∙ ap (λ x. bit_and (mask * 2 ^ at + 0) x) (sym w) in
    k3 ∙ k ∙ omega (arith, ap (λ x. x * 2 ^ at) k2)) in
    let parts = split word at width in
    let turned = and_comm word (2 ^ 64 - 1 - mask * 2 ^ at) in
    omega (arith, n, field, parts, turned)

-- setting a field gives its definition
pub set_is : (word at width mask value : ℕ) → word < 2 ^ 64 → mask + 1 ≡ 2 ^ width → at + width ≤ 64 → value < 2 ^ width
    → bit_or (bit_and word (18446744073709551615 - mask * 2 ^ at % 18446744073709551616)) (value * 2 ^ at % 18446744073709551616) ≡ with_bits word at width value
set_is word at width mask value fits e within small =
    let below : mask < 2 ^ width = omega arith in
    let wide : width + at ≤ 64 = omega arith in
    let m : mask * 2 ^ at % 18446744073709551616 ≡ mask * 2 ^ at = shl_whole mask width at 64 below wide in
    let v : value * 2 ^ at % 18446744073709551616 ≡ value * 2 ^ at = shl_whole value width at 64 small wide in
    let low = mod_below (mask * 2 ^ at) 18446744073709551616 (omega arith) in
    let room : mask * 2 ^ at < 2 ^ 64 = omega (arith, m, low) in
    let hi = word / 2 ^ (at + width) in
    let lo = word % 2 ^ at in
    let a : bit_and word (18446744073709551615 - mask * 2 ^ at) ≡ hi * 2 ^ width * 2 ^ at + lo = masked word at width mask fits e room in
    let b : bit_or (hi * 2 ^ width * 2 ^ at + lo) (value * 2 ^ at + 0) ≡ bit_or (hi * 2 ^ width) value * 2 ^ at + bit_or lo 0 = or_block at (hi * 2 ^ width) value lo 0 (mod_below word (2 ^ at) (pow_pos at)) (pow_pos at) in
    let c : bit_or (hi * 2 ^ width) value ≡ hi * 2 ^ width + value = or_shifted hi width value small in
    let d : bit_or lo 0 ≡ lo = or_comm lo 0 in
    let z : value * 2 ^ at ≡ value * 2 ^ at + 0 = omega arith in
    let p : 2 ^ (at + width) ≡ 2 ^ at * 2 ^ width = pow-add 2 at width in
    rw (m, v, a, z, b, c, d) (omega (arith, ap (λ x. hi * x) p))

part : (w at i n : ℕ) → i + n ≤ at → w / 2 ^ i % 2 ^ n ≡ w % 2 ^ at / 2 ^ i % 2 ^ n
part w at i n le =
    let k : (at - i) + i ≡ at = omega arith in
    let j : (at - i - n) + n ≡ at - i = omega arith in
    let a : w % 2 ^ at / 2 ^ i ≡ w / 2 ^ i % 2 ^ (at - i) = ap (λ x. w % 2 ^ x / 2 ^ i) (sym k) ∙ field_of w (at - i) i in
    let b : w / 2 ^ i % 2 ^ (at - i) ≡ w / 2 ^ i / 2 ^ n % 2 ^ (at - i - n) * 2 ^ n + w / 2 ^ i % 2 ^ n = ap (λ x. w / 2 ^ i % 2 ^ x) (sym j) ∙ mod-pow-add (w / 2 ^ i) (at - i - n) n in
    rw (a, b) (sym (mod_low (w / 2 ^ i / 2 ^ n % 2 ^ (at - i - n)) n (w / 2 ^ i % 2 ^ n) (mod_below (w / 2 ^ i) (2 ^ n) (pow_pos n))))

module _ (word at width value : ℕ) (small : value < 2 ^ width) where
  -- the new word: what stands above the field and in it, and what stands below
  two : with_bits word at width value ≡ (word / 2 ^ (at + width) * 2 ^ width + value) * 2 ^ at + word % 2 ^ at
  two = let p : 2 ^ (at + width) ≡ 2 ^ at * 2 ^ width = pow-add 2 at width in
      omega (arith, ap (λ x. word / 2 ^ (at + width) * x) p)

  top_is : with_bits word at width value / 2 ^ at ≡ word / 2 ^ (at + width) * 2 ^ width + value
  top_is = rw two (shr_high (word / 2 ^ (at + width) * 2 ^ width + value) at (word % 2 ^ at) (mod_below word (2 ^ at) (pow_pos at)))

  pub same : bits_of (with_bits word at width value) at width ≡ value
  same = rw top_is (mod_low (word / 2 ^ (at + width)) width value small)

  low_is : with_bits word at width value % 2 ^ at ≡ word % 2 ^ at
  low_is = rw two (mod_low (word / 2 ^ (at + width) * 2 ^ width + value) at (word % 2 ^ at) (mod_below word (2 ^ at) (pow_pos at)))

  high_is : with_bits word at width value / 2 ^ (at + width) ≡ word / 2 ^ (at + width)
  high_is = rw (← shr-shr (with_bits word at width value) at width, top_is) (shr_high (word / 2 ^ (at + width)) width value small)

  pub above : (i n : ℕ) → at + width ≤ i → bits_of (with_bits word at width value) i n ≡ bits_of word i n
  above i n le =
      let k : i ≡ (at + width) + (i - (at + width)) = omega arith in
      let one : with_bits word at width value / 2 ^ i ≡ word / 2 ^ i =
      rw k (rw (← shr-shr (with_bits word at width value) (at + width) (i - (at + width)), ← shr-shr word (at + width) (i - (at + width)), high_is) refl) in
      ap (λ x. x % 2 ^ n) one

  pub below : (i n : ℕ) → i + n ≤ at → bits_of (with_bits word at width value) i n ≡ bits_of word i n
  below i n le =
      let cut : (w : ℕ) → w / 2 ^ i % 2 ^ n ≡ w % 2 ^ at / 2 ^ i % 2 ^ n = λ w. part w at i n le in
      cut (with_bits word at width value) ∙ rw low_is refl ∙ sym (cut word)
