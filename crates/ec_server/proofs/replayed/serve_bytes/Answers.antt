-- The source has the bytes, never fails, and they are fewer than the limit.
use Rattle.std.proofs.Common.{List, ℕ, Some, ap, arith}
use Rattle.ec_files.specs.Languages.{language_of}
use Rattle.ec_server.specs.InputLimits.{most_input}
use Rattle.ec_server.proofs.ServedBytes.{SaysBytes-of, zero_stays}
use Rattle.ec_server.proofs.replayed.serve_bytes.Goals as goal

pub returns-clause-says : goal.returns-clause-says
returns-clause-says g c =
    SaysBytes-of (λ (bytes : List ℕ). Some bytes) (λ (bytes : List ℕ). 0) g.K.Sink.stands g.K.Sink.faults (language_of c.args.checked) most_input c.new-source.result c.serve.new.input
    c.args.output.now c.serve.new.output c.args.bytes.items (ap (λ (b : List ℕ). Some b) c.new-source.ensures) (omega (arith, c.requires)) zero_stays c.serve.result c.serve.ensures.served
