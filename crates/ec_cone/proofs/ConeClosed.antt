-- The properties whose forms are in the cone are a closed set.
use Rattle.std.proofs.Common.{suc, ◌≡◌, Bool, false, IsTrue, sym, ap, subst, ◌∙◌, ⊎_elim, arith}
use Rattle.std.specs.List.{Contains}
use Rattle.std.proofs.lemmas.Option.{get_or_from_slice_get}
use Rattle.ec_lists.proofs.Places.{slice_get-map_at}
use Rattle.ec_terms.specs.declared.ground.Ground.{Ground}
use Rattle.ec_terms.specs.declared.theory.Rule.{Rule}
use Rattle.ec_terms.specs.declared.theory.Theory.{Theory}
use Rattle.ec_terms.specs.Domain.{GroundLiteral, GroundEntry, entries_of, are_exclusive}
use Rattle.ec_terms.specs.Matchable.{IsMatchable}
use Rattle.ec_terms.proofs.Exclusion.{are_exclusive-OneExcludes}
use Rattle.ec_axioms.proofs.Members.{IsMember-from_contains, IsMember-slice_get, Contains-from_member}
use Rattle.ec_cone.specs.Forms.{Form, form_of, pattern_form}
use Rattle.ec_cone.specs.Cone.{cone_has, in_cone, cone_rules, has_number}
use Rattle.ec_cone.specs.ConeLaws.{ConeIsClosed, ConeSuffices, ConeGoesByRules}
use Rattle.ec_cone.proofs.ClosedSets.{ClosedSetSuffices-law}
use Rattle.ec_cone.proofs.ConeForms.{ConeHasAllBelow-law}
use Rattle.ec_cone.proofs.FilledForms.{IsOfRule-entries_of, form_of-head, form_of-literal, form_of-fits}

-- the cone is the same for the same form
cone_has-along : (theory : Theory) (start f g : Form) → f ≡ g → IsTrue (cone_has theory start f) → IsTrue (cone_has theory start g)
cone_has-along theory start f g same = subst (λ h. IsTrue (cone_has theory start h)) same

-- with the head of an entry the cone has each of its literals
literals_in_cone : (theory : Theory) (p event : Ground) (entry : GroundEntry) (literal : GroundLiteral) → IsMatchable theory
    → Contains (entries_of theory event) entry → Contains entry.literals literal → IsTrue (in_cone theory p entry.head) → IsTrue (in_cone theory p literal.prop)
literals_in_cone theory p event entry literal matchable member here within =
    let of_rule = IsOfRule-entries_of theory event entry member in
    let own = form_of-literal theory event entry literal matchable of_rule (IsMember-from_contains entry.literals literal here) in
    cone_has-along theory (form_of p) (pattern_form own.0.prop) (form_of literal.prop) (sym own.2)
    ((ConeHasAllBelow-law theory (form_of p)).literals of_rule.rule own.0
    (Contains-from_member theory.rules of_rule.rule (IsMember-slice_get theory.rules of_rule.place of_rule.rule of_rule.there))
    (Contains-from_member of_rule.rule.literals own.0 own.1)
    (cone_has-along theory (form_of p) (form_of entry.head) (pattern_form of_rule.rule.head) (form_of-head theory event entry matchable of_rule) within))

-- and with a property each one that is exclusive to it
exclusives_in_cone : (theory : Theory) (p q r : Ground) → IsTrue (are_exclusive theory q r) → IsTrue (in_cone theory p q) → IsTrue (in_cone theory p r)
exclusives_in_cone theory p q r exclusive within =
    let found = ((are_exclusive-OneExcludes theory q r).0 exclusive).1 in
    let declaration = found.1 in
    let member : Contains theory.exclusives declaration = (found.0, found.2, found.3) in
    let below = ConeHasAllBelow-law theory (form_of p) in
    ⊎_elim
    (λ in_order.
    cone_has-along theory (form_of p) (pattern_form declaration.right) (form_of r) (sym (form_of-fits in_order.0 declaration.right r in_order.2))
    (below.rights declaration member
    (cone_has-along theory (form_of p) (form_of q) (pattern_form declaration.left) (form_of-fits in_order.0 declaration.left q in_order.1) within)))
    (λ turned.
    cone_has-along theory (form_of p) (pattern_form declaration.left) (form_of r) (sym (form_of-fits turned.0 declaration.left r turned.1))
    (below.lefts declaration member
    (cone_has-along theory (form_of p) (form_of q) (pattern_form declaration.right) (form_of-fits turned.0 declaration.right q turned.2) within)))
    found.4

-- ---- the laws

pub ConeIsClosed-law : ConeIsClosed
ConeIsClosed-law theory p matchable = record {
  literals = λ event entry literal member here within. literals_in_cone theory p event entry literal matchable member here within;
  exclusives = λ q r exclusive within. exclusives_in_cone theory p q r exclusive within;
}

-- so it needs only its own events
pub ConeSuffices-law : ConeSuffices
ConeSuffices-law theory events p matchable history =
    ClosedSetSuffices-law theory (in_cone theory p) events p history (ConeIsClosed-law theory p matchable) (ConeHasAllBelow-law theory (form_of p)).itself

-- a cone entry is one of a rule whose head is in the cone
pub ConeGoesByRules-law : ConeGoesByRules
ConeGoesByRules-law theory p event entry matchable member =
    let of_rule = IsOfRule-entries_of theory event entry member in
    let counted = of_rule.counted in
    let behind : entry.rule ≡ suc of_rule.place = omega (arith, counted) in
    let is_in : Rule → Bool = λ rule. cone_has theory (form_of p) (pattern_form rule.head) in
    ap (has_number (cone_rules theory p)) behind
    ∙ get_or_from_slice_get (cone_rules theory p) of_rule.place (is_in of_rule.rule) false
    (slice_get-map_at is_in theory.rules of_rule.place of_rule.rule of_rule.there)
    ∙ ap (cone_has theory (form_of p)) (sym (form_of-head theory event entry matchable of_rule))
