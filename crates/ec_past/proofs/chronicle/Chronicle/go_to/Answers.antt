-- The way goes from the list that is viewed, or from the present one where none is.
use Rattle.std.specs.Global.{Box}
use Rattle.std.specs.Prelude.{IfSome, option_map}
use Rattle.std.proofs.Common.{◌≡◌, ◌≤◌, ◌+◌, ◌-◌, ℕ, Option, Some, cond, eqb, length, sym, ap, subst, ◌∙◌, arith}
use Rattle.ec_replies.specs.Past.{first_kept}
use Rattle.ec_past.specs.Chronicles.{PlainChronicle}
use Rattle.ec_past.specs.Journals.{PlainJournal, past_of}
use Rattle.ec_past.specs.Viewing.{IsViewOf, PlainView, steps_on_the_way, way_steps}
use Rattle.ec_past.proofs.Kept.{length-kept_from}
use Rattle.ec_past.proofs.ViewLemmas.{IsViewOf-present, few-first, few-present, few-viewed}
use Rattle.ec_past.proofs.chronicle.Chronicle.go_to.Goals.{in-Some, in-None+in_ok-view-in-None}
use Rattle.ec_past.proofs.chronicle.Chronicle.go_to.Goals as goal

pub returns-in_err-view-in-None-clause-steps : goal.returns-in_err-view-in-None-clause-steps
returns-in_err-view-in-None-clause-steps g c =
    let engine = c.self.inside.engine in
    let journal = c.self.inside.journal.value in
    let past = past_of engine.events journal in
    let counted = c.count-count.ensures ∙ ap (λ (j : PlainJournal). j.count) c.deref.ensures in
    let other : (c.args.k ≡ past.count → ⊥) = λ same. omega (arith, same, counted, c.if-k-count.false) in
    let here : PlainChronicle = record { theory = engine.theory; events = engine.events; past = past; viewed = option_map (λ (v : Box PlainView). v.value.at) c.self.inside.viewed } in
    let none = ap (option_map (λ (v : Box PlainView). v.value.at)) (sym c.take.ensures.value ∙ c.in-None.is) in
    subst (λ (s : PlainChronicle). c.of_present.new.steps ≤ c.args.steps.now + way_steps s.theory s.events s.past s.viewed c.args.k) c.self.view_is
    (few-first here c.args.k c.of_present.new.steps c.args.steps.now other none c.of_present.ensures.steps)

pub go_to-gone-requires-clause-viewed : goal.go_to-gone-requires-clause-viewed
go_to-gone-requires-clause-viewed g c =
    let engine = c.self.inside.engine in
    let journal = c.self.inside.journal.value in
    let past = past_of engine.events journal in
    let counted = c.count-count.ensures ∙ ap (λ (j : PlainJournal). j.count) c.deref.ensures in
    let present = subst (λ (n : ℕ). IsViewOf engine.theory engine.events past (record { at = n; standing = engine })) (sym counted) (IsViewOf-present engine.theory engine.events past) in
    let viewed : IsViewOf engine.theory engine.events past c.match-take.view.value = elim c.match-take.branch [
      | in-Some w ↦
          subst (λ (v : Box PlainView). IsViewOf engine.theory engine.events past v.value) (sym w.view-is)
          (subst (λ (o : Option (Box PlainView)). IfSome (option_map (λ v. v.value) o) (IsViewOf engine.theory engine.events past)) (sym c.take.ensures.value ∙ w.in-Some.is) c.self.invariant.viewed)
      | in-None+in_ok-view-in-None w ↦
          subst (λ (v : PlainView). IsViewOf engine.theory engine.events past v) (sym (ap (λ (v : Box PlainView). v.value) w.view-is ∙ w.in_ok-view-in-None.ensures.view)) present
    ] in
    subst (λ (j : PlainJournal). IsViewOf engine.theory engine.events (past_of engine.events j) c.deref_mut.result.now) (sym c.deref-2.ensures)
    (subst (λ (v : PlainView). IsViewOf engine.theory engine.events past v) (sym c.deref_mut.ensures.value) viewed)

pub go_to-gone-requires-clause-kept : goal.go_to-gone-requires-clause-kept
go_to-gone-requires-clause-kept g c =
    let least = ap (λ (s : PlainChronicle). first_kept s.past) c.self.view_is in
    let counted = ap (λ (j : PlainJournal). j.count - length j.kept) c.deref-2.ensures in
    let kept = length-kept_from c.self.inside.engine.events c.self.inside.journal.value.kept in
    omega (arith, least, counted, kept, c.requires.kept)

pub returns-clause-steps : goal.returns-clause-steps
returns-clause-steps g c =
    let engine = c.self.inside.engine in
    let journal = c.self.inside.journal.value in
    let past = past_of engine.events journal in
    let counted = c.count-count.ensures ∙ ap (λ (j : PlainJournal). j.count) c.deref.ensures in
    let other : (c.args.k ≡ past.count → ⊥) = λ same. omega (arith, same, counted, c.if-k-count.false) in
    let here : PlainChronicle = record { theory = engine.theory; events = engine.events; past = past; viewed = option_map (λ (v : Box PlainView). v.value.at) c.self.inside.viewed } in
    let at = c.match-take.view.value.at in
    let gone =
    subst (λ (j : PlainJournal). c.go_to-gone.new.steps ≤ c.match-take.steps + cond (eqb c.match-take.view.value.at c.args.k) 0 (steps_on_the_way engine.theory engine.events (past_of engine.events j) c.match-take.view.value.at c.args.k)) c.deref-2.ensures
    (subst (λ (v : PlainView). c.go_to-gone.new.steps ≤ c.match-take.steps + cond (eqb v.at c.args.k) 0 (steps_on_the_way engine.theory engine.events (past_of engine.events c.deref-2.result.now) v.at c.args.k)) c.deref_mut.ensures.value
    c.go_to-gone.ensures.steps) in
    let few : c.go_to-gone.new.steps ≤ c.args.steps.now + way_steps here.theory here.events here.past here.viewed c.args.k = elim c.match-take.branch [
      | in-Some w ↦
          few-viewed here c.args.k c.go_to-gone.new.steps c.args.steps.now at other
          (ap (option_map (λ (v : Box PlainView). v.value.at)) (sym c.take.ensures.value ∙ w.in-Some.is) ∙ ap (λ (v : Box PlainView). Some v.value.at) (sym w.view-is))
          (subst (λ (n : ℕ). c.go_to-gone.new.steps ≤ n + cond (eqb c.match-take.view.value.at c.args.k) 0 (steps_on_the_way engine.theory engine.events past c.match-take.view.value.at c.args.k)) w.steps-is gone)
      | in-None+in_ok-view-in-None w ↦
          few-present here c.args.k c.go_to-gone.new.steps c.match-take.steps c.args.steps.now at other
          (ap (option_map (λ (v : Box PlainView). v.value.at)) (sym c.take.ensures.value ∙ w.in-None.is))
          (ap (λ (v : Box PlainView). v.value.at) w.view-is ∙ ap (λ (v : PlainView). v.at) w.in_ok-view-in-None.ensures.view ∙ counted)
          (omega (arith, w.steps-is, w.of_present.ensures.steps)) gone
    ] in
    subst (λ (s : PlainChronicle). c.go_to-gone.new.steps ≤ c.args.steps.now + way_steps s.theory s.events s.past s.viewed c.args.k) c.self.view_is few
