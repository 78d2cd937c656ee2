-- The contract of the conversion admits one answer: bits determine a single-precision number.
use Prim.Native.Nat.{ℕ}
use mathlib.Core.Path.{◌≡◌, sym, ap, ◌∙◌}
use contract.Lifetimes.{Lfts}
use denote.Triple.Clauses.{AtExit}
use borrow.Fn.Kinds.{Dens, ended_of}
use lib.Dec.{T}
use lib.Ieee.{Float, binary32, to_bits, of_bits, fits}
use lib.Ieee.Bits.{of_bits-to_bits}
use Rattle.shader.specs.declared.Numbers.{Numbers}
use Rattle.shader.specs.declared.Shader.{Shader}
use Rattle.shader.specs.Shader.{bits_in}
use Rattle.shader.proofs.shader_numbers.Kinds as shader-numbers
use Rattle.shader.proofs.shader_numbers.Reads as shader-numbers-contract

-- seven numbers of single precision, as every f32 is
pub record Singles (n : Numbers) : Type 0 where
  pub target : T (fits binary32 n.target_max_pq)
  pub slope : T (fits binary32 n.trim_slope)
  pub offset : T (fits binary32 n.trim_offset)
  pub power : T (fits binary32 n.trim_power)
  pub chroma : T (fits binary32 n.trim_chroma_weight)
  pub gain : T (fits binary32 n.trim_saturation_gain)
  pub weight : T (fits binary32 n.ms_weight)

same_float : (x y : Float) → T (fits binary32 x) → T (fits binary32 y) → to_bits binary32 x ≡ to_bits binary32 y → x ≡ y
same_float x y f g e = sym (of_bits-to_bits binary32 x f) ∙ ap (of_bits binary32) e ∙ of_bits-to_bits binary32 y g

same_numbers : (n m : Numbers) → Singles n → Singles m → bits_in n ≡ bits_in m → n ≡ m
same_numbers n m f g e =
    let t = same_float n.target_max_pq m.target_max_pq f.target g.target (cc) in
    let s = same_float n.trim_slope m.trim_slope f.slope g.slope (cc) in
    let o = same_float n.trim_offset m.trim_offset f.offset g.offset (cc) in
    let p = same_float n.trim_power m.trim_power f.power g.power (cc) in
    let c = same_float n.trim_chroma_weight m.trim_chroma_weight f.chroma g.chroma (cc) in
    let a = same_float n.trim_saturation_gain m.trim_saturation_gain f.gain g.gain (cc) in
    let w = same_float n.ms_weight m.ms_weight f.weight g.weight (cc) in
    let e : made n.target_max_pq n.trim_slope n.trim_offset n.trim_power n.trim_chroma_weight n.trim_saturation_gain n.ms_weight
    ≡ made m.target_max_pq m.trim_slope m.trim_offset m.trim_power m.trim_chroma_weight m.trim_saturation_gain m.ms_weight = rw (t, s, o, p, c, a, w) in
    e
  where
    made : Float → Float → Float → Float → Float → Float → Float → Numbers
    made t s o p c a w = record { target_max_pq = t; trim_slope = s; trim_offset = o; trim_power = p; trim_chroma_weight = c; trim_saturation_gain = a; ms_weight = w }

pub shader_numbers_one : (κs : Lfts 0) (a : Dens κs shader-numbers.ps) (x y : Shader) (s t : AtExit (ended_of 0 shader-numbers.ps shader-numbers.r) κs)
    → Singles x.numbers → Singles y.numbers → shader-numbers-contract.Post κs a x s → shader-numbers-contract.Post κs a y t → x ≡ y
shader_numbers_one κs a x y s t f g e h =
    let r : x.result ≡ y.result = e.0 ∙ sym h.0 in
    let n : x.numbers ≡ y.numbers = same_numbers x.numbers y.numbers f g (e.1 ∙ sym h.1) in
    let w : whole x.result x.numbers ≡ whole y.result y.numbers = rw (r, n) in
    w
  where
    whole : ℕ → Numbers → Shader
    whole r n = record { result = r; numbers = n }
