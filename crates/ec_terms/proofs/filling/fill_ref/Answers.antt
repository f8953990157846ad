use Rattle.std.proofs.Common.{◌≡◌, ◌<◌, ◌≤◌, ◌∙◌, ap, length, [], ◌∷◌, get_or, filter_map, arith, length-append}
use Rattle.std.proofs.lemmas.Grind.{common_steps}
use Rattle.std.proofs.lemmas.List.{take_all}
use Rattle.ec_terms.specs.Binding.{values_of}
use Rattle.ec_terms.specs.Term.{ground_of, names_are_names}
use Rattle.ec_terms.specs.Matching.{filled, value_of}
use Rattle.ec_terms.proofs.OrderLemmas.{ground_same}
use Rattle.ec_terms.proofs.FillingLemmas.{shown-push, shown-same, shown-push_named}
use Rattle.ec_terms.proofs.filling.fill_ref.Goals as goal
use Rattle.ec_terms.proofs.filling.fill_ref.Goals.{in-Some, in_default}
use Rattle.std.proofs.lemmas.Bool.{and_from}

pub loop-place-preserved : goal.loop-place-preserved
loop-place-preserved c =
    let places = c.as_slice-place-items.ensures in
    let within : c.loop-place.place-index < length c.args.pattern.now.args = omega (arith, c.loop-place-test.true, ap length places) in
    let here : c.place-item.result ≡ get_or c.args.pattern.now.args c.loop-place.place-index c.place-item.result = rw (← places) c.place-item.is in
    elim c.match-place_value.branch [
      | in-Some w ↦
          let more = w.args-is ∙ w.push.ensures in
          record {
            few = omega (arith, c.loop-place.invariant.few, ap length more, length-append c.loop-place.args (w.in-Some.arg ∷ []));
            values =
                shown-push (values_of c.args.binding.now) c.args.pattern.now.args c.loop-place.place-index c.place-item.result c.loop-place.args c.match-place_value.args w.in-Some.arg
                within here w.in-Some.ensures.value more c.loop-place.invariant.values;
            named = shown-push_named c.loop-place.args c.match-place_value.args w.in-Some.arg more c.loop-place.invariant.named w.in-Some.ensures.named;
          }
      | in_default w ↦
          record {
            few = omega (arith, c.loop-place.invariant.few, ap length w.args-is);
            values =
                rw w.args-is
                (shown-same (values_of c.args.binding.now) c.args.pattern.now.args c.loop-place.place-index c.place-item.result c.loop-place.args
                within here w.in_default.ensures.value c.loop-place.invariant.values);
            named = rw w.args-is c.loop-place.invariant.named;
          }
    ]

pub returns-clause-filled : goal.returns-clause-filled
unfolding filled
returns-clause-filled c =
    let places = c.as_slice-place-items.ensures in
    let past : length c.args.pattern.now.args ≤ c.loop-place.place-index = omega (arith, c.loop-place-test.false, ap length places) in
    ground_same (ground_of (record { name = c.as_bytes.result; args = c.loop-place.args })) (filled (values_of c.args.binding.now) c.args.pattern.now) c.as_bytes.ensures.bytes
    (c.loop-place.invariant.values ∙ ap (filter_map (value_of (values_of c.args.binding.now))) (take_all c.loop-place.place-index c.args.pattern.now.args past))

pub returns-clause-named : goal.returns-clause-named
unfolding names_are_names
returns-clause-named c =
    let bytes = c.as_bytes.ensures.bytes in
    and_from _ _ (rw bytes c.as_bytes.ensures.name) c.loop-place.invariant.named

pub place_value-requires : goal.place_value-requires
place_value-requires c = grind (arith, common_steps)

pub push-requires : goal.push-requires
push-requires c = grind (arith, common_steps)
