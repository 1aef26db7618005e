use Rattle.std.proofs.Common.{◌≤◌, length, arith}
use Rattle.td_use_image.proofs.shared_words.SharedWordsWords.load.Goals as goal
use Rattle.td_stream.proofs.Rising.{few}

pub push-requires : goal.push-requires
push-requires c =
    let n : length c.args.self.now.loads.list ≤ c.args.i = few c.args.i c.args.self.now.loads.list c.requires.next in
    omega (arith, n, c.requires.within, c.args.self.now.room)
