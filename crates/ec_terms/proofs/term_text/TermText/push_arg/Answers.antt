-- A word is a name, and a name has at most 64 bytes, all of them ASCII.
use Rattle.std.proofs.Common.{◌++◌, ◌∙◌, SFits, w64, rules, ap, sym, arith, length, length-append}
use Rattle.std.proofs.lemmas.Grind.{common_steps}
use Rattle.std.proofs.lemmas.Int.{to_z-of_z}
use Rattle.ec_moment.specs.Number.{number_text}
use Rattle.ec_terms.specs.Term.{arg_of, arg_text}
use Rattle.ec_terms.specs.TextLaws.{has_size}
use Rattle.ec_terms.proofs.Names.{is_name-short}
use Rattle.ec_terms.proofs.Texts.{IsAscii-from_name, is_name-word, arg_text-int, arg_text-word, has_size-int, has_size-word}
use Rattle.ec_terms.proofs.term_text.TermText.push_arg.Goals as goal

pub push_bytes-requires-in-Word-clause-ascii : goal.push_bytes-requires-in-Word-clause-ascii
push_bytes-requires-in-Word-clause-ascii c = IsAscii-from_name _ (is_name-word _ (rw c.in-Word.is at c.requires.name))

pub push_bytes-requires-in-Word-clause-room : goal.push_bytes-requires-in-Word-clause-room
push_bytes-requires-in-Word-clause-room c =
    let short = is_name-short _ (is_name-word _ (rw c.in-Word.is at c.requires.name)) in omega arith

pub returns-in-Int-clause-text : goal.returns-in-Int-clause-text
returns-in-Int-clause-text c =
    let fits : SFits w64 c.in-Int.number = search rules in
    c.push_bytes.ensures
    ∙ ap (λ t. c.args.self.now ++ t)
    (c.as_bytes.ensures.value ∙ c.format.ensures.text ∙ ap number_text (to_z-of_z w64 c.in-Int.number fits) ∙ sym (arg_text-int c.in-Int.number)
    ∙ ap (λ a. arg_text (arg_of a)) (sym c.in-Int.is))

pub returns-in-Word-clause-text : goal.returns-in-Word-clause-text
returns-in-Word-clause-text c =
    c.push_bytes-in-Word.ensures ∙ ap (λ w. c.args.self.now ++ w) (sym (arg_text-word c.in-Word.word.now) ∙ ap (λ a. arg_text (arg_of a)) (sym c.in-Word.is))

pub returns-in-Word-clause-short : goal.returns-in-Word-clause-short
returns-in-Word-clause-short c =
    let short = is_name-short _ (is_name-word _ (rw c.in-Word.is at c.requires.name)) in
    let grown = ap length c.push_bytes-in-Word.ensures in
    omega (arith, length-append c.args.self.now c.in-Word.word.now)

pub returns-in-Int-clause-size : goal.returns-in-Int-clause-size
returns-in-Int-clause-size c =
    let fits : SFits w64 c.in-Int.number = search rules in
    ap (λ a. has_size (arg_of a)) c.in-Int.is ∙ has_size-int c.in-Int.number fits

pub returns-in-Word-clause-size : goal.returns-in-Word-clause-size
returns-in-Word-clause-size c = ap (λ a. has_size (arg_of a)) c.in-Word.is ∙ has_size-word c.in-Word.word.now

pub returns-in-Int-clause-short : goal.returns-in-Int-clause-short
returns-in-Int-clause-short c = grind (arith, common_steps)

pub push_bytes-requires-clause-ascii : goal.push_bytes-requires-clause-ascii
push_bytes-requires-clause-ascii c = grind (arith, common_steps)
