-- No entry point for C asks anything of its caller: said of the contracts themselves, as the check reads them.
use contract.Lifetimes.{Lfts}
use borrow.Fn.Kinds.{Dens}
use Rattle.pimlasut.proofs.pim_read_bare.Kinds as pim-read-bare
use Rattle.pimlasut.proofs.pim_read_bare.Reads as pim-read-bare-contract
use Rattle.pimlasut.proofs.pim_read_wrapped.Kinds as pim-read-wrapped
use Rattle.pimlasut.proofs.pim_read_wrapped.Reads as pim-read-wrapped-contract
use Rattle.pimlasut.proofs.pim_read_unit.Kinds as pim-read-unit
use Rattle.pimlasut.proofs.pim_read_unit.Reads as pim-read-unit-contract
use Rattle.pimlasut.proofs.pim_write_bare.Kinds as pim-write-bare
use Rattle.pimlasut.proofs.pim_write_bare.Reads as pim-write-bare-contract
use Rattle.pimlasut.proofs.pim_write_wrapped.Kinds as pim-write-wrapped
use Rattle.pimlasut.proofs.pim_write_wrapped.Reads as pim-write-wrapped-contract
use Rattle.pimlasut.proofs.pim_write_unit.Kinds as pim-write-unit
use Rattle.pimlasut.proofs.pim_write_unit.Reads as pim-write-unit-contract
use Rattle.pimlasut.proofs.pim_why_wrapped.Kinds as pim-why-wrapped
use Rattle.pimlasut.proofs.pim_why_wrapped.Reads as pim-why-wrapped-contract
use Rattle.pimlasut.proofs.pim_shader.Kinds as pim-shader
use Rattle.pimlasut.proofs.pim_shader.Reads as pim-shader-contract
use Rattle.pimlasut.proofs.pim_place.Kinds as pim-place
use Rattle.pimlasut.proofs.pim_place.Reads as pim-place-contract
use Rattle.pimlasut.proofs.pim_lookup.Kinds as pim-lookup
use Rattle.pimlasut.proofs.pim_lookup.Reads as pim-lookup-contract
use Rattle.pimlasut.proofs.pim_join.Kinds as pim-join
use Rattle.pimlasut.proofs.pim_join.Reads as pim-join-contract

pub pim_read_bare_asks_nothing : (κs : Lfts 3) (a : Dens κs pim-read-bare.ps) → pim-read-bare-contract.Pre κs a
pim_read_bare_asks_nothing κs a = tt

pub pim_read_wrapped_asks_nothing : (κs : Lfts 3) (a : Dens κs pim-read-wrapped.ps) → pim-read-wrapped-contract.Pre κs a
pim_read_wrapped_asks_nothing κs a = tt

pub pim_read_unit_asks_nothing : (κs : Lfts 3) (a : Dens κs pim-read-unit.ps) → pim-read-unit-contract.Pre κs a
pim_read_unit_asks_nothing κs a = tt

pub pim_write_bare_asks_nothing : (κs : Lfts 3) (a : Dens κs pim-write-bare.ps) → pim-write-bare-contract.Pre κs a
pim_write_bare_asks_nothing κs a = tt

pub pim_write_wrapped_asks_nothing : (κs : Lfts 3) (a : Dens κs pim-write-wrapped.ps) → pim-write-wrapped-contract.Pre κs a
pim_write_wrapped_asks_nothing κs a = tt

pub pim_write_unit_asks_nothing : (κs : Lfts 3) (a : Dens κs pim-write-unit.ps) → pim-write-unit-contract.Pre κs a
pim_write_unit_asks_nothing κs a = tt

pub pim_why_wrapped_asks_nothing : (κs : Lfts 3) (a : Dens κs pim-why-wrapped.ps) → pim-why-wrapped-contract.Pre κs a
pim_why_wrapped_asks_nothing κs a = tt

pub pim_shader_asks_nothing : (κs : Lfts 2) (a : Dens κs pim-shader.ps) → pim-shader-contract.Pre κs a
pim_shader_asks_nothing κs a = tt

pub pim_place_asks_nothing : (κs : Lfts 3) (a : Dens κs pim-place.ps) → pim-place-contract.Pre κs a
pim_place_asks_nothing κs a = tt

pub pim_lookup_asks_nothing : (κs : Lfts 3) (a : Dens κs pim-lookup.ps) → pim-lookup-contract.Pre κs a
pim_lookup_asks_nothing κs a = tt

pub pim_join_asks_nothing : (κs : Lfts 4) (a : Dens κs pim-join.ps) → pim-join-contract.Pre κs a
pim_join_asks_nothing κs a = tt
