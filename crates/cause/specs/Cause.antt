-- Why data was refused (02, f), as numbers: what the code tells of a fault.
use Rattle.std.specs.Prelude.{ℕ}
use Rattle.tree.specs.Reading.{Allowed, between, other_than, Fault, cut_off, overlong, breaks, Out, ok, no}
use Rattle.tree.specs.Coding.{natural}
use Rattle.element.specs.declared.Element.{Element}
use Rattle.element.specs.declared.Element.TheVariants.{Nothing}
use Rattle.record.specs.Name.{Name, element_of}
use Rattle.cause.specs.declared.Kind.TheVariants.{Untold, Range, Other}
use Rattle.cause.specs.declared.Cause.{Cause}

-- for 1 and 2 the element alone
abbrev pub untold : Element → Cause
untold e = record { element = e; kind = Untold; value = 0; lowest = 0; highest = 0 }

abbrev pub range : Element → (value lowest highest : ℕ) → Cause
range e v low high = record { element = e; kind = Range; value = v; lowest = low; highest = high }

abbrev pub other : Element → ℕ → Cause
other e v = record { element = e; kind = Other; value = v; lowest = 0; highest = 0 }

-- nothing was refused, or not for an element
abbrev pub nothing : Cause
nothing = untold Nothing

-- a value, and which are allowed
abbrev pub cause_by : Element → ℕ → Allowed → Cause
cause_by e v (between low high) = range e v (natural low) (natural high)
cause_by e v (other_than zs) = other e v

-- of a fault; no value and no limit of these tables has a sign
abbrev pub cause_of : Fault Name → Cause
cause_of (cut_off at n) = untold (element_of n)
cause_of (overlong at n) = untold (element_of n)
cause_of (breaks r) = cause_by (element_of r.element) (natural r.value) r.allowed

abbrev pub cause_in : {A : Type 0} → Out Name A → Cause
cause_in (ok a n) = nothing
cause_in (no f) = cause_of f
