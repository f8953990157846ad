-- Bytes spell a civil time where their numbers have a rank and their text is the bytes.
use Rattle.std.proofs.Common.{◌≡◌, Some, false, refl, ap, sym, ◌∙◌}
use Rattle.std.proofs.lemmas.Bool.{false_from_ne_true, false≢true}
use Rattle.std.proofs.lemmas.Slice.Eq.{bytes_eq-Decides}
use Rattle.ec_civil.specs.Civil.{civil_rank, is_civil, stamp_at, stamp_text}
use Rattle.ec_civil.proofs.Texts.{civil_value-no_civil, civil_value-no_text, civil_value-other_length, civil_value-spelt}
use Rattle.ec_civil.proofs.civil.read_rank.Goals as goal

pub returns-then-bytes-ne-TEXT_LENGTH-clause-exact : goal.returns-then-bytes-ne-TEXT_LENGTH-clause-exact
returns-then-bytes-ne-TEXT_LENGTH-clause-exact c =
    sym (civil_value-other_length c.args.bytes.now c.if-bytes-ne-TEXT_LENGTH.true)

pub returns-in_err-rank-clause-exact : goal.returns-in_err-rank-clause-exact
returns-in_err-rank-clause-exact c =
    let stamp = c.at_places-stamp.ensures in
    let civil = c.in_err-rank.ensures.civil in
    let none : is_civil c.at_places-stamp.result ≡ false = false_from_ne_true _ (λ yes. false≢true (civil.1 yes)) in
    rw c.from_residual.ensures (sym (civil_value-no_civil c.args.bytes.now (sym (ap is_civil stamp) ∙ none)))

pub returns-then-eq-clause-exact : goal.returns-then-eq-clause-exact
returns-then-eq-clause-exact c =
    let stamp = c.at_places-stamp.ensures in
    let civil = c.in_ok-rank.ensures.civil.0 refl in
    let text : c.as_bytes.result.now ≡ stamp_text (stamp_at c.args.bytes.now) =
    c.as_bytes.ensures.value ∙ c.text.ensures ∙ ap stamp_text stamp in
    let same = (bytes_eq-Decides c.as_bytes.result.now c.args.bytes.now).0 (sym c.eq.ensures ∙ c.if-eq.true) in
    let spelt = civil_value-spelt c.args.bytes.now (sym (ap is_civil stamp) ∙ civil) (sym same ∙ text) in
    ap Some (c.in_ok-rank.ensures.value ∙ ap civil_rank stamp) ∙ sym spelt

pub returns-else-eq-clause-exact : goal.returns-else-eq-clause-exact
returns-else-eq-clause-exact c =
    let text : c.as_bytes.result.now ≡ stamp_text (stamp_at c.args.bytes.now) =
    c.as_bytes.ensures.value ∙ c.text.ensures ∙ ap stamp_text c.at_places-stamp.ensures in
    let is_text = bytes_eq-Decides c.as_bytes.result.now c.args.bytes.now in
    sym (civil_value-no_text c.args.bytes.now (λ same.
    false≢true (sym c.if-eq.false ∙ c.eq.ensures ∙ is_text.1 (text ∙ sym same))))
