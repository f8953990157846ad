-- The text so far is the name and the arguments so far.
use Rattle.std.proofs.Common.{◌≡◌, ◌≤◌, ◌+◌, ◌*◌, ◌++◌, length, map, take, IsTrue}
use Rattle.std.specs.List.{list_all}
use Rattle.ec_terms.specs.declared.limits.TheConstants.{LONGEST_NAME}
use Rattle.ec_terms.specs.TextLaws.{has_size}
use Rattle.ec_terms.specs.Term.{arg_of}
use Rattle.ec_terms.proofs.Texts.{mark_before, opened_text}
use Rattle.ec_terms.proofs.term_text.text.Given as goal

abbrev pub invariant-loop-arg : goal.invariant-loop-arg
invariant-loop-arg l = record {
  so_far : l.text ≡ l.fn.term.name.now ++ opened_text (map arg_of (take l.arg-index l.fn.term.args));
  mark : l.mark ≡ mark_before (map arg_of (take l.arg-index l.fn.term.args));
  sizes : IsTrue (list_all has_size (map arg_of (take l.arg-index l.fn.term.args)));
  short : length l.text ≤ LONGEST_NAME + (LONGEST_NAME + 1) * l.arg-index;
}
