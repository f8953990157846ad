use Rattle.std.proofs.Common.{◌∙◌, arith}
use Rattle.std.proofs.lemmas.Grind.{common_steps}
use Rattle.ec_terms.specs.Term.{arg_of}
use Rattle.ec_terms.specs.Binding.{values_of}
use Rattle.ec_terms.proofs.MatchingLemmas.{arg_ref_eq, place_fits-value, place_fits-taken, place_fits-any, place_fits-fixed}
use Rattle.ec_terms.proofs.matching.place_meets.Goals as goal

pub returns-in-Some-clause-fits : goal.returns-in-Some-clause-fits
returns-in-Some-clause-fits c =
    c.eq.ensures ∙ arg_ref_eq c.in-Some.value c.args.arg
    ∙ place_fits-value (values_of c.args.binding.now) c.args.place.now c.in-Var.variable (arg_of c.in-Some.value) (arg_of c.args.arg) c.in-Var.is c.in-Some.ensures.value

pub returns-in-None-clause-fits : goal.returns-in-None-clause-fits
returns-in-None-clause-fits c =
    place_fits-taken (values_of c.args.binding.now) (values_of c.set.new.self) c.args.place.now c.in-Var.variable (arg_of c.args.arg) c.in-Var.is c.set.ensures

pub returns-in-Any-clause-fits : goal.returns-in-Any-clause-fits
returns-in-Any-clause-fits c = place_fits-any (values_of c.args.binding.now) c.args.place.now (arg_of c.args.arg) c.in-Any.is

pub returns-in-Fixed-clause-fits : goal.returns-in-Fixed-clause-fits
returns-in-Fixed-clause-fits c =
    c.eq-in-Fixed.ensures ∙ arg_ref_eq c.borrow.result c.args.arg
    ∙ place_fits-fixed (values_of c.args.binding.now) c.args.place.now c.in-Fixed.fixed (arg_of c.borrow.result) (arg_of c.args.arg) c.in-Fixed.is c.borrow.ensures.same

pub set-requires-clause-place : goal.set-requires-clause-place
set-requires-clause-place c = grind (arith, common_steps)
