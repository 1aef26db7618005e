use Rattle.std.proofs.Common.{arith}
use Rattle.td_host.proofs.rooms.worker_rooms.Goals as goal

pub returns-in-Ok-clause-room : goal.returns-in-Ok-clause-room
returns-in-Ok-clause-room g c = omega (arith, c.args.desk.now.mails.ok.0, c.in-Ok.ensures.capacity)
