use Rattle.std.proofs.Common.{arith}
use Rattle.std.proofs.lemmas.Nat.{mul-le}
use Rattle.td_host.proofs.rooms.reply_rooms.Goals as goal

pub overflow_mul-most : goal.overflow_mul-most
overflow_mul-most c =
    let most = mul-le c.args.workers c.args.posts 16 4096 c.requires.workers c.requires.posts in
    omega (arith, most)
