-- Each public contract admits one answer, or one later content of the lent table: said of the contract itself, as the check reads it.
use mathlib.Core.Path.{sym, ◌∙◌}
use Rattle.bits.proofs.OneAnswer.{OneResult}
use Rattle.flat.proofs.OneAnswer.{OneLater}
use Rattle.tables.proofs.get_point.Kinds as get-point
use Rattle.tables.proofs.get_point.Reads as get-point-contract
use Rattle.tables.proofs.found_point.Kinds as found-point
use Rattle.tables.proofs.found_point.Reads as found-point-contract
use Rattle.tables.proofs.scan.Kinds as scan
use Rattle.tables.proofs.scan.Reads as scan-contract
use Rattle.tables.proofs.put_point.Kinds as put-point
use Rattle.tables.proofs.put_point.Reads as put-point-contract
use Rattle.tables.proofs.clear.Kinds as clear
use Rattle.tables.proofs.clear.Reads as clear-contract
use Rattle.tables.proofs.fill.Kinds as fill
use Rattle.tables.proofs.fill.Reads as fill-contract

pub get_point_one : OneResult get-point.ps get-point.r get-point-contract.Post
get_point_one κs a x y s t e f = e ∙ sym f

pub found_point_one : OneResult found-point.ps found-point.r found-point-contract.Post
found_point_one κs a x y s t e f = e ∙ sym f

pub scan_one : OneResult scan.ps scan.r scan-contract.Post
scan_one κs a x y s t e f = e ∙ sym f

pub put_point_one : OneLater put-point.ps put-point.r put-point-contract.Post (λ κs s. s.0.now)
put_point_one κs a x y s t e f = e ∙ sym f

pub clear_one : OneLater clear.ps clear.r clear-contract.Post (λ κs s. s.0.now)
clear_one κs a x y s t e f = e ∙ sym f

pub fill_one : OneLater fill.ps fill.r fill-contract.Post (λ κs s. s.0.now)
fill_one κs a x y s t e f = e ∙ sym f
