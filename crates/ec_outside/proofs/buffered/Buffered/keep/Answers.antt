-- What follows from the calls and the tests before it.
use Rattle.std.proofs.Common.{◌≡◌, ℕ, ◌≤◌, List, ◌++◌, length, drop, append_assoc, sym, ap, ◌∙◌, arith}
use Rattle.std.proofs.lemmas.Bool.{OnTrue_at, OnTrue_from}
use Rattle.std.proofs.lemmas.List.{drop-append-le}
use Rattle.ec_outside.specs.Streams.{Appended}
use Rattle.ec_outside.specs.BufferedState.{stands_with_waiting}
use Rattle.std.proofs.lemmas.Grind.{common_steps}
use Rattle.ec_outside.proofs.buffered.Buffered.keep.Goals as goal

-- bytes behind those that wait
kept_bytes : {S : Type 0} (stands : S → List ℕ → Type 0) (sink : S) (sent : ℕ) (before after bytes : List ℕ) → sent ≤ length before → after ≡ before ++ bytes
    → Appended (stands_with_waiting stands) (sink, drop sent before) (sink, drop sent after) bytes
kept_bytes stands sink sent before after bytes within is = record {
  follows = λ text stood.
      let waiting : drop sent after ≡ drop sent before ++ bytes = ap (drop sent) is ∙ drop-append-le sent before bytes within in
      (stood.0, (stood.1.0, ap (λ all. all ++ bytes) stood.1.1 ∙ append_assoc stood.0 (drop sent before) bytes ∙ ap (λ all. stood.0 ++ all) (sym waiting)));
}

pub returns-clause-added : goal.returns-clause-added
returns-clause-added g c =
    rw (← c.self.view_is)
    (OnTrue_from c.gather.result _ (λ kept. kept_bytes g.K.Sink.stands c.self.inside.behind c.self.inside.sent c.self.inside.buffer.items c.gather.new.buffer.items c.args.bytes.now (omega (arith, c.self.invariant, c.self.inside.buffer.ok.0)) (OnTrue_at kept c.gather.ensures.added)))

pub returns-clause-full : goal.returns-clause-full
returns-clause-full c = grind (arith, common_steps)

pub returns-clause-behind : goal.returns-clause-behind
returns-clause-behind c = grind (arith, common_steps)
