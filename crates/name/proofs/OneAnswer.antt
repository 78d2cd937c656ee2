-- The public contract admits one answer: said of the contract itself, as the check reads it.
use Rattle.text.proofs.OneAnswer.{OnePage, one_page}
use Rattle.name.proofs.put_name.Kinds as put-name
use Rattle.name.proofs.put_name.Reads as put-name-contract

pub put_name_one : OnePage put-name.ps put-name.r put-name-contract.Post (λ κs s. s.0.now)
put_name_one κs a x y s t e f = one_page e f
