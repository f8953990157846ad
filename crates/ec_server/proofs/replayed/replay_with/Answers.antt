-- The file was read, and its lines are served.
use Rattle.std.proofs.Common.{inl}
use Rattle.ec_server.proofs.replayed.replay_with.Goals as goal

pub returns-in-Ok-clause-says : goal.returns-in-Ok-clause-says
returns-in-Ok-clause-says g c = inl (c.read_whole.new.into.items, (λ tells. record { file = c.in-Ok.ensures.exact tells; fits = c.in-Ok.ensures.within }), c.serve_bytes.ensures.says)
