use Rattle.std.proofs.Common.{◌≡◌, ◌++◌, ◌∷◌, [], refl, ap, subst, ◌∙◌, arith}
use Rattle.std.proofs.lemmas.Grind.{common_steps}
use Rattle.ec_terms.specs.Matching.{filled}
use Rattle.ec_terms.specs.Term.{ground_of}
use Rattle.ec_parts.specs.Initials.{KeepsOnce, initial_term}
use Rattle.ec_parts.proofs.InitialTables.{KeepsOnce-counted, KeepsOnce-uncounted}
use Rattle.ec_parts.proofs.initials.keep_initial.Goals as goal

pub returns-then-mentions-eq0 : goal.returns-then-mentions-eq0
returns-then-mentions-eq0 c terms once =
    let own : ground_of c.fill_ref.result ≡ initial_term c.args.initial.now = c.fill_ref.ensures.filled ∙ ap (λ values. filled values c.args.initial.now.prop) c.new.ensures in
    subst (λ t. KeepsOnce (terms ++ t ∷ []) c.mention.new.self) own
    (KeepsOnce-counted terms (ground_of c.fill_ref.result) c.args.props.now c.intern.new.self c.mention.new.self c.in_ok-p.p.0 c.mentions.result
    (record {
      one = record { in_order = c.len.ensures.order; numbers = c.len.ensures.numbers };
      same = c.in_ok-p.ensures.same;
      free = c.in_ok-p.ensures.free;
      alone = c.in_ok-p.ensures.props;
      kept = c.in_ok-p.ensures.others;
      own = c.in_ok-p.ensures.term;
      counted = c.mentions.ensures;
    })
    c.if-mentions-eq0.true c.mention.ensures.props once)

pub returns-else-mentions-eq0 : goal.returns-else-mentions-eq0
returns-else-mentions-eq0 c terms once =
    let own : ground_of c.fill_ref.result ≡ initial_term c.args.initial.now = c.fill_ref.ensures.filled ∙ ap (λ values. filled values c.args.initial.now.prop) c.new.ensures in
    subst (λ t. KeepsOnce (terms ++ t ∷ []) c.intern.new.self) own
    (KeepsOnce-uncounted terms (ground_of c.fill_ref.result) c.args.props.now c.intern.new.self c.intern.new.self c.in_ok-p.p.0 c.mentions.result
    (record {
      one = record { in_order = c.len.ensures.order; numbers = c.len.ensures.numbers };
      same = c.in_ok-p.ensures.same;
      free = c.in_ok-p.ensures.free;
      alone = c.in_ok-p.ensures.props;
      kept = c.in_ok-p.ensures.others;
      own = c.in_ok-p.ensures.term;
      counted = c.mentions.ensures;
    })
    c.if-mentions-eq0.false refl once)

pub mention-requires-clause-room : goal.mention-requires-clause-room
mention-requires-clause-room c = grind (arith, common_steps)
