use Rattle.td_code.proofs.One.{one_code, one_listing, one_packed}
use Rattle.td_code.proofs.laws.code_is_one.Goals as goal

pub returns : goal.returns
returns c = record { one_code = one_code; one_listing = one_listing; one_packed = one_packed }
