-- What is told of a refusal on its way: its number, the element that it is about, and where that begins.
use Rattle.std.specs.Prelude.{ℕ, ◌≡◌}
use Rattle.tree.specs.Reading.{Fault, number_in, offset_in, element_in, Out, no}
use Rattle.refusals.specs.Numbered.{refusal_of}
use Rattle.element.specs.declared.Element.{Element}
use Rattle.element.specs.declared.Refused.{Refused}
use Rattle.element.specs.Refused.{refused}
use Rattle.record.specs.Name.{Name, element_of}

-- an answer is a fault, of which this is told
abbrev pub ToldAs : {A : Type 0} → Out Name A → ℕ → Element → ℕ → Type 0
ToldAs o number e at = (f : Fault Name) × (o ≡ no f) × (number ≡ number_in f) × (e ≡ element_of (element_in f)) × (at ≡ offset_in f)

-- a fault, as it goes its way in the code
abbrev pub refused_as : Fault Name → Refused
refused_as f = refused (refusal_of (number_in f)) (element_of (element_in f)) (offset_in f)

-- an answer is a fault, which is this refusal
abbrev pub Tells : {A : Type 0} → Out Name A → Refused → Type 0
Tells o r = (f : Fault Name) × (o ≡ no f) × (r ≡ refused_as f)
