-- The list that is viewed is another one, so that the present list is the one that is ready.
use Rattle.std.proofs.Common.{◌≡◌, ℕ, Option, None, Some, sym, ap, ◌∙◌, arith}
use Rattle.std.specs.Global.{Box}
use Rattle.std.specs.Prelude.{option_map}
use Rattle.ec_past.specs.Chronicles.{PlainChronicle}
use Rattle.ec_past.specs.Viewing.{PlainView}
use Rattle.ec_past.proofs.ViewLemmas.{ready-present}
use Rattle.ec_past.proofs.chronicle.Chronicle.at.Goals.{in_default-via-in-Some+else-at-k, in_default-via-in_default}
use Rattle.ec_past.proofs.chronicle.Chronicle.at.Goals as goal

pub returns-in_default-clause-list : goal.returns-in_default-clause-list
returns-in_default-clause-list g c =
    let viewed = ap (λ (s : PlainChronicle). s.viewed) c.self.view_is in
    let other : (c.args.self.now.viewed ≡ Some c.args.k → ⊥) = elim c.in_default.branch [
      | in_default-via-in-Some+else-at-k w ↦ λ is.
          let there : ◌≡◌ {A = Option ℕ} (Some w.in-Some.view.value.at) (Some c.args.k) = sym (ap (option_map (λ (v : Box PlainView). v.value.at)) w.in-Some.is) ∙ viewed ∙ is in
          let own : w.in-Some.view.value.at ≡ c.args.k = cc in
          let read = w.at.ensures ∙ ap (λ (v : PlainView). v.at) w.deref.ensures in
          omega (arith, own, read, w.if-at-k.false)
      | in_default-via-in_default w ↦ λ is. let there : ◌≡◌ {A = Option ℕ} None (Some c.args.k) = sym (ap (option_map (λ (v : Box PlainView). v.value.at)) w.in_default.is) ∙ viewed ∙ is in cc
    ] in
    ap (λ (s : PlainChronicle). s.events) c.self.view_is ∙ ready-present c.args.self.now c.args.k c.requires other
