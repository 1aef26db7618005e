use Rattle.std.proofs.Common.{[], refl}
use Rattle.td_takes.proofs.Running.{no_takes}
use Rattle.td_host_actors.specs.Actors.{take_rooms_of}
use Rattle.td_host_actors.proofs.actor.Actor.run.Goals as goal

pub returns-in-Worker-clause-take_memory : goal.returns-in-Worker-clause-take_memory
returns-in-Worker-clause-take_memory g c = no_takes (take_rooms_of c.args.self.now) [] refl

pub returns-in-Guest-clause-take_memory : goal.returns-in-Guest-clause-take_memory
returns-in-Guest-clause-take_memory g c = no_takes (take_rooms_of c.args.self.now) [] refl

pub returns-in-Publisher-clause-take_memory : goal.returns-in-Publisher-clause-take_memory
returns-in-Publisher-clause-take_memory g c = no_takes (take_rooms_of c.args.self.now) [] refl
