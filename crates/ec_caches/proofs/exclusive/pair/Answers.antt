-- Numbers are arguments, and the name is one.
use Rattle.std.proofs.Common.{◌&&◌, map, refl, ap, ap₂, ◌∙◌}
use Rattle.std.specs.List.{list_all}
use Rattle.ec_terms.specs.Spelling.{is_name}
use Rattle.ec_terms.specs.Term.{names_are_names, is_argument, arg_of}
use Rattle.ec_terms.proofs.Pieces.{names-push}
use Rattle.ec_caches.proofs.exclusive.pair.Goals as goal

pub returns : goal.returns
unfolding names_are_names is_argument
returns c =
    ap₂ (λ a b. a && b) (ap is_name c.as_bytes.ensures.bytes ∙ c.as_bytes.ensures.name)
    (names-push c.push-2.new.self c.push.new.self _ c.push-2.ensures
    (names-push c.push.new.self c.new-args.result _ c.push.ensures (ap (λ args. list_all is_argument (map arg_of args)) c.new-args.ensures) refl) refl)
