-- What is left stays the same when the next line is drawn, and begins with the bytes that are copied.
use Rattle.std.proofs.Common.{◌≡◌, ◌∙◌, ◌++◌, drop, length, take, ◌-◌, ap, sym, arith}
use Rattle.std.proofs.lemmas.List.{take_rest}
use Rattle.std.proofs.lemmas.Grind.{common_steps}
use Rattle.ec_soak.specs.Load.{load_of}
use Rattle.ec_soak.proofs.Loads.{left-after, left-next}
use Rattle.ec_soak.proofs.soak_source.SoakSource.give.Goals as goal
use Rattle.ec_soak.proofs.soak_source.SoakSource.give.Goals.{then-self-as_bytes+in-Some, then-self-as_bytes+in_default, else-self-as_bytes}

pub returns-clause-given : goal.returns-clause-given
returns-clause-given c =
    let text = c.if-self-as_bytes.self-inside.text in
    let at = c.if-self-as_bytes.self-inside.at in
    let left : c.args.self.now ≡ drop at text ++ load_of c.if-self-as_bytes.self-inside.lines =
    elim c.if-self-as_bytes.branch [
      | then-self-as_bytes+in-Some w ↦
          rw w.self-inside-is (
          sym c.self.view_is
          ∙ left-next c.self.inside.text _ c.self.inside.at _ _ w.in-Some.line
          (w.if-self-as_bytes.true ∙ ap length c.as_bytes.ensures) w.in-Some.ensures.next w.text_of-self-inside.ensures.text
          )
      | then-self-as_bytes+in_default w ↦
          rw w.self-inside-is (sym c.self.view_is ∙ ap (λ lines. drop c.self.inside.at c.self.inside.text ++ load_of lines) w.in_default.ensures.next)
      | else-self-as_bytes w ↦ rw w.self-inside-is (sym c.self.view_is)
    ] in
    let rest : take (length c.as_bytes-2.result.now - at) (drop at c.as_bytes-2.result.now) ≡ drop at text =
    take_rest c.as_bytes-2.result.now at ∙ ap (λ bytes. drop at bytes) c.as_bytes-2.ensures in
    left-after text _ _ c.copy_from_slice.new.self (drop c.min-count.result c.args.into.now) at c.min-count.result left
    (c.copy_from_slice.ensures.after ∙ ap (λ all. take c.min-count.result all) rest) (omega (arith, ap length rest))

pub copy_from_slice-requires : goal.copy_from_slice-requires
copy_from_slice-requires c = grind (arith, common_steps)

pub slice_bounds-copy_from_slice-end-2 : goal.slice_bounds-copy_from_slice-end-2
slice_bounds-copy_from_slice-end-2 c = grind (arith, common_steps)

pub slice_bounds-copy_from_slice-end-3 : goal.slice_bounds-copy_from_slice-end-3
slice_bounds-copy_from_slice-end-3 c = grind (arith, common_steps)

pub slice_bounds-rest-count : goal.slice_bounds-rest-count
slice_bounds-rest-count c = grind (arith, common_steps)

pub slice_bounds-rest-start : goal.slice_bounds-rest-start
slice_bounds-rest-start c = grind (arith, common_steps)
