-- The cone of a form is the least set of forms that has it and all that it rests on.
use Rattle.std.proofs.Common.{Bool, flat_map, length, IsTrue, refl, subst, inl, inr, ⊎_elim}
use Rattle.ec_terms.specs.declared.theory.Literal.{Literal}
use Rattle.ec_terms.specs.declared.theory.Rule.{Rule}
use Rattle.ec_terms.specs.declared.theory.Exclusive.{Exclusive}
use Rattle.ec_terms.specs.declared.theory.Theory.{Theory}
use Rattle.ec_axioms.proofs.Members.{IsMember, IsMember-from_contains, Contains-from_member, IsMember-map, IsMember-from_map, IsMember-append_cases, IsMember-append_left, IsMember-append_right}
use Rattle.ec_changes.proofs.JoinedMembers.{IsMember-flat_map, IsMember-from_flat_map}
use Rattle.ec_cone.specs.Forms.{Form, Reading, pattern_form, readings_of, rule_readings, exclusive_readings}
use Rattle.ec_cone.specs.Cone.{cone_has}
use Rattle.ec_cone.specs.ConeLaws.{HasAllBelow, ConeHasAllBelow, ConeIsLeast}
use Rattle.ec_cone.proofs.Ways.{reaches-closed, reaches-start, reaches-least}

-- ---- the readings of a theory

-- a reading of a rule is one of its theory
IsMember-rule : (theory : Theory) (rule : Rule) (literal : Literal) → IsMember theory.rules rule → IsMember rule.literals literal
    → IsMember (readings_of theory) (record { from = pattern_form rule.head; to = pattern_form literal.prop })
unfolding readings_of
IsMember-rule theory rule literal member here =
    IsMember-append_left (flat_map rule_readings theory.rules) (flat_map exclusive_readings theory.exclusives) _
    (IsMember-flat_map rule_readings theory.rules rule _ member
    (IsMember-map (λ (l : Literal). record { from = pattern_form rule.head; to = pattern_form l.prop }) rule.literals literal here))

-- and so is a reading of a declaration
IsMember-declaration : (theory : Theory) (declaration : Exclusive) (r : Reading) → IsMember theory.exclusives declaration
    → IsMember (exclusive_readings declaration) r → IsMember (readings_of theory) r
unfolding readings_of
IsMember-declaration theory declaration r member here =
    IsMember-append_right (flat_map rule_readings theory.rules) (flat_map exclusive_readings theory.exclusives) r
    (IsMember-flat_map exclusive_readings theory.exclusives declaration r member here)

-- a set that has all below a form is closed under readings
closed_under_readings : (theory : Theory) (start : Form) (inside : Form → Bool) → HasAllBelow theory start inside
    → (r : Reading) → IsMember (readings_of theory) r → IsTrue (inside r.from) → IsTrue (inside r.to)
unfolding readings_of
closed_under_readings theory start inside below r member =
    ⊎_elim
    (λ of_rule.
    let rule = IsMember-from_flat_map rule_readings theory.rules r of_rule in
    let literal = IsMember-from_map (λ (l : Literal). record { from = pattern_form rule.0.head; to = pattern_form l.prop }) rule.0.literals r rule.2 in
    subst IsFollowed literal.2
    (below.literals rule.0 literal.0 (Contains-from_member theory.rules rule.0 rule.1) (Contains-from_member rule.0.literals literal.0 literal.1)))
    (λ of_declaration.
    let declaration = IsMember-from_flat_map exclusive_readings theory.exclusives r of_declaration in
    let there = Contains-from_member theory.exclusives declaration.0 declaration.1 in
    by_side declaration.0 declaration.2 (below.rights declaration.0 there) (below.lefts declaration.0 there))
    (IsMember-append_cases (flat_map rule_readings theory.rules) (flat_map exclusive_readings theory.exclusives) r member)
  where
    IsFollowed : Reading → Type 0
    IsFollowed s = IsTrue (inside s.from) → IsTrue (inside s.to)

    by_side : (d : Exclusive) → IsMember (exclusive_readings d) r
        → (IsTrue (inside (pattern_form d.left)) → IsTrue (inside (pattern_form d.right)))
        → (IsTrue (inside (pattern_form d.right)) → IsTrue (inside (pattern_form d.left))) → IsTrue (inside r.from) → IsTrue (inside r.to)
    by_side d (inl is) rights lefts = subst IsFollowed is rights
    by_side d (inr (inl is)) rights lefts = subst IsFollowed is lefts
    by_side d (inr (inr none)) rights lefts = absurd none

-- ---- the laws

-- the cone has all that it rests on
pub ConeHasAllBelow-law : ConeHasAllBelow
unfolding cone_has
ConeHasAllBelow-law theory start = record {
  itself = reaches-start (readings_of theory) start (length (readings_of theory));
  literals = λ rule literal member here. reaches-closed (readings_of theory) start _
      (IsMember-rule theory rule literal (IsMember-from_contains theory.rules rule member) (IsMember-from_contains rule.literals literal here));
  rights = λ declaration member. reaches-closed (readings_of theory) start _
      (IsMember-declaration theory declaration _ (IsMember-from_contains theory.exclusives declaration member) (inl refl));
  lefts = λ declaration member. reaches-closed (readings_of theory) start _
      (IsMember-declaration theory declaration _ (IsMember-from_contains theory.exclusives declaration member) (inr (inl refl)));
}

-- and lies in each such set
pub ConeIsLeast-law : ConeIsLeast
unfolding cone_has
ConeIsLeast-law theory start inside below form there =
    reaches-least (readings_of theory) start inside below.itself (closed_under_readings theory start inside below) (length (readings_of theory)) form there
