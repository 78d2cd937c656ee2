-- Laws of two's complement in n bits, and of the shifts that make 2 ^ n.
use Prim.Native.Nat.{ℕ, zero, suc, ◌+◌, ◌-◌, ◌*◌, ◌%◌, ◌^◌, ◌<◌, ◌≤◌}
use mathlib.Core.Path.{◌≡◌, refl, ap, sym, ◌∙◌}
use mathlib.Core.Bool.{Bool, true, false}
use mathlib.Core.Logic.{◌⊎◌, inl, inr}
use native.Mathlib.Omega.{arith}
use native.Mathlib.Nat.{mod-lt, mod-eq_of_lt, add-mod_right, lt_of_lt_of_le}
use borrow.Author.Tests.{le-ltb, ltb-true, ltb-false}
use lib.Dec.{ltb}
use lib.IntN.{ℤ, pos, negsuc, ◌-ℤ◌}
use lib.Pow.{pow_mono, pow_pos}
use mir.Val.{to_z, of_z, SFits}
use mir.ValLaws.{to_z_pos, to_z-of_z}
use mir.Syntax.{w32, w64}
use Rattle.tree.specs.Reading.{signed_of}
use Rattle.tree.proofs.Elements.{twice_half, sub_below, signed_low, signed_high}
use Rattle.window.proofs.Laws.{shl_one, shl_some}

sub_above : (v m : ℕ) → m ≤ v → pos v -ℤ pos m ≡ pos (v - m)
sub_above v zero h = let e : v + 0 ≡ v - 0 = omega arith in rw e
sub_above v (suc m) h = rw (le-ltb v (suc m) h)

-- of v, a code in n bits: half of 2 ^ n is added, what passes 2 ^ n is left off, and the half is taken away again
module _ (n v : ℕ) (some : 0 < n) (most : n ≤ 32) (held : v < 2 ^ n) where
  abbrev half : ℕ
  half = 2 ^ (n - 1)

  abbrev turned : ℕ
  turned = (v + half) % 2 ^ n

  abbrev half_made : ℕ
  half_made = 1 * 2 ^ (n - 1) % 18446744073709551616

  abbrev turned_made : ℕ
  turned_made = (v + half_made) % (1 * 2 ^ n % 18446744073709551616)

  -- a half has at most 31 bits
  half_small : half ≤ 2147483648
  half_small = pow_mono {j = 31} (omega arith)

  -- the first half of the codes goes up, the second down
  turned_is : ((v < half) × (turned ≡ v + half)) ⊎ ((half ≤ v) × (turned ≡ v - half))
  turned_is = go (ltb v half) refl
    where
      t : 2 ^ n ≡ 2 * half
      t = twice_half n some

      go : (b : Bool) → ltb v half ≡ b → ((v < half) × (turned ≡ v + half)) ⊎ ((half ≤ v) × (turned ≡ v - half))
      go true q = let l = ltb-true v half q in inl (l, mod-eq_of_lt (omega (arith, t)))
      go false q =
          let l = ltb-false v half q in
          let e : v + half ≡ v - half + 2 ^ n = omega (arith, t, l) in
          inr (l, ap (λ (x : ℕ). x % 2 ^ n) e ∙ add-mod_right (v - half) (2 ^ n) ∙ mod-eq_of_lt (omega (arith, t, l)))

  turned_small : turned < 4294967296
  turned_small = lt_of_lt_of_le (mod-lt (v + half) (pow_pos n)) (pow_mono {j = 32} most)

  made : (half_made ≡ half) × (turned_made ≡ turned)
  made = let h = shl_one (n - 1) 64 (omega arith) in let w = shl_one n 64 (omega arith) in (h, rw (h, w) refl)

  pub sum_of_halves : v + half_made < 18446744073709551616
  sum_of_halves = let p : 2 ^ n ≤ 2 ^ 32 = pow_mono {j = 32} most in rw made.0 (omega (arith, half_small, p, held))

  pub whole_is_some : 0 < 1 * 2 ^ n % 18446744073709551616
  whole_is_some = shl_some n (omega arith)

  pub turned_fits : SFits w64 (pos turned_made)
  turned_fits = rw made.1 (record { sfits = omega (arith, turned_small) })

  pub half_fits : SFits w64 (pos half_made)
  half_fits = rw made.0 (record { sfits = omega (arith, half_small) })

  abbrev difference : ℤ
  difference = to_z w64 turned_made -ℤ to_z w64 half_made

  difference_is : difference ≡ signed_of n v
  difference_is =
      rw (made.1, made.0, to_z_pos w64 turned (omega (arith, turned_small)), to_z_pos w64 half (omega (arith, half_small))) (go turned_is)
    where
      go : ((v < half) × (turned ≡ v + half)) ⊎ ((half ≤ v) × (turned ≡ v - half)) → pos turned -ℤ pos half ≡ signed_of n v
      go (inl (l, e)) =
          let d : v + half - half ≡ v = omega arith in
          rw e (sub_above (v + half) half (omega arith)) ∙ ap pos d ∙ sym (signed_low n v l)
      go (inr (l, e)) =
          let d : half - suc (v - half) ≡ 2 ^ n - suc v = omega (arith, twice_half n some, l, held) in
          rw e (sub_below (v - half) half (omega (arith, twice_half n some, l, held))) ∙ ap negsuc d ∙ sym (signed_high n v l held)

  -- it has at most 32 bits, with its sign
  signed_small : SFits w32 (signed_of n v)
  signed_small = go (ltb v half) refl
    where
      go : (b : Bool) → ltb v half ≡ b → SFits w32 (signed_of n v)
      go true q = let l = ltb-true v half q in rw (signed_low n v l) (record { sfits = omega (arith, half_small, l) })
      go false q =
          let l = ltb-false v half q in
          rw (signed_high n v l held) (record { sfits = omega (arith, half_small, twice_half n some, l) })

  pub difference_fits : SFits w64 difference
  difference_fits = rw difference_is (record { sfits = omega (arith, signed_small.sfits) })

  pub signed_fits : SFits w32 (to_z w64 (of_z w64 difference))
  signed_fits = rw (to_z-of_z w64 difference difference_fits, difference_is) signed_small

  pub signed_is : to_z w32 (of_z w32 (to_z w64 (of_z w64 difference))) ≡ signed_of n v
  signed_is = to_z-of_z w32 (to_z w64 (of_z w64 difference)) signed_fits ∙ to_z-of_z w64 difference difference_fits ∙ difference_is
