-- A place that is shared adds its value, and any other adds nothing.
use Rattle.std.proofs.Common.{◌≡◌, ◌<◌, ◌∙◌, ap, sym, length, [], ◌∷◌, get_or, arith, length-append}
use Rattle.std.proofs.lemmas.Grind.{common_steps}
use Rattle.std.proofs.lemmas.Bool.{and_from}
use Rattle.ec_terms.specs.Binding.{values_of}
use Rattle.ec_terms.specs.Term.{names_are_names}
use Rattle.ec_terms.proofs.FillingLemmas.{shown-push_named, filter_map-more_None}
use Rattle.ec_exclusive.specs.Keys.{shared_value}
use Rattle.ec_exclusive.proofs.KeyLemmas.{shown-push}
use Rattle.ec_exclusive.proofs.keys.shared_term.Goals as goal
use Rattle.ec_exclusive.proofs.keys.shared_term.Goals.{in-Some, in_default}

pub loop-place-preserved : goal.loop-place-preserved
loop-place-preserved c =
    let places = c.as_slice-place-items.ensures in
    let within : c.loop-place.place-index < length c.args.declaration.now.left.args = omega (arith, c.loop-place-test.true, ap length places) in
    let here : c.place-item.result ≡ get_or c.args.declaration.now.left.args c.loop-place.place-index c.place-item.result = rw (← places) c.place-item.is in
    elim c.match-shared_value.branch [
      | in-Some w ↦
          let more = w.args-is ∙ w.push.ensures in
          record {
            few = omega (arith, c.loop-place.invariant.few, ap length more, length-append c.loop-place.args (w.in-Some.arg ∷ []));
            values =
                shown-push (shared_value (values_of c.args.binding.now) c.args.declaration.now.right) c.args.declaration.now.left.args c.loop-place.place-index c.place-item.result c.loop-place.args
                c.match-shared_value.args w.in-Some.arg within here w.in-Some.ensures.value more c.loop-place.invariant.values;
            named = shown-push_named c.loop-place.args c.match-shared_value.args w.in-Some.arg more c.loop-place.invariant.named w.in-Some.ensures.named;
          }
      | in_default w ↦
          record {
            few = omega (arith, c.loop-place.invariant.few, ap length w.args-is);
            values =
                rw w.args-is
                (c.loop-place.invariant.values
                ∙ sym (filter_map-more_None (shared_value (values_of c.args.binding.now) c.args.declaration.now.right) c.args.declaration.now.left.args c.loop-place.place-index c.place-item.result
                within here w.in_default.ensures.value));
            named = rw w.args-is c.loop-place.invariant.named;
          }
    ]

pub returns-clause-named : goal.returns-clause-named
unfolding names_are_names
returns-clause-named c =
    let bytes = c.as_bytes.ensures.bytes in
    and_from _ _ (rw bytes c.as_bytes.ensures.name) c.loop-place.invariant.named

pub push-requires : goal.push-requires
push-requires c = grind (arith, common_steps)

pub shared_value-requires : goal.shared_value-requires
shared_value-requires c = grind (arith, common_steps)

pub returns-clause-term : goal.returns-clause-term
returns-clause-term c = grind (arith, common_steps)
