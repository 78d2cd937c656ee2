-- The refusals of a unit (02, a), each over the whole unit and in their order; and the unit that holds our message.
use Rattle.std.specs.Prelude.{ℕ, ◌≤◌, ◌≡◌, List, length, drop}
use Rattle.emulation.specs.Emulation.{removed, StartCodeInside}
use Rattle.rbsp.specs.Message.{Message, sei_rbsp, NoneOurs, FirstOurs, OneOrMore, Broken}
use Rattle.sei.specs.Header.{most_unit_bytes, WrongUnit, AllowedHeader}
use Rattle.sei.specs.SeiUnit.{unit_of}

-- what stands behind the header, without emulation bytes
abbrev pub body_of : List ℕ → List ℕ
body_of u = removed (drop 2 u)

-- 30
abbrev pub Thirty : List ℕ → Type 0
Thirty u = WrongUnit u

-- 31, if not 30
pub record ThirtyOne (u : List ℕ) : Type 0 where
  pub right_unit : WrongUnit u → ⊥
  pub inside : StartCodeInside u

-- 32, if neither
pub record ThirtyTwo (u : List ℕ) : Type 0 where
  pub right_unit : WrongUnit u → ⊥
  pub none_inside : StartCodeInside u → ⊥
  pub is_broken : Broken (body_of u)

-- 33, if none of these: one or more messages and the byte 80, and none of them is ours
pub record ThirtyThree (u : List ℕ) : Type 0 where
  pub right_unit : WrongUnit u → ⊥
  pub none_inside : StartCodeInside u → ⊥
  pub messages : List Message
  pub one_or_more : OneOrMore messages
  pub all : body_of u ≡ sei_rbsp messages
  pub none_ours : NoneOurs messages

-- and else the first of ours is m
pub record HoldsOurs (u : List ℕ) (m : Message) : Type 0 where
  pub right_unit : WrongUnit u → ⊥
  pub none_inside : StartCodeInside u → ⊥
  pub messages : List Message
  pub one_or_more : OneOrMore messages
  pub all : body_of u ≡ sei_rbsp messages
  pub first : FirstOurs messages m

-- the form of every unit that is none of 30, 31 and 32: a header as 02 allows, then the one escaping of its messages and the byte 80
pub record IsUnit (u : List ℕ) (ms : List Message) : Type 0 where
  pub first : ℕ
  pub second : ℕ
  pub header : AllowedHeader first second
  pub few : length u ≤ most_unit_bytes
  pub is : u ≡ unit_of first second ms
