-- What grows from a form: where nothing waits, exactly the nodes in the cone are reached.
use Rattle.std.proofs.Common.{◌≡◌, ◌⊎◌, ℕ, zero, suc, ◌<◌, Bool, true, false, not, ◌&&◌, ◌||◌, List, [], ◌∷◌, ◌++◌, length, map, filter, flat_map, take, get_or, set, IsTrue, refl, sym, ap, ap₂, subst, ◌∙◌, inl, inr, ⊎_elim, arith}
use Rattle.std.specs.List.{Contains, list_any, list_all}
use Rattle.std.proofs.lemmas.Bool.{and_parts, and_from, or_left, or_right, or_cases, false≢true, not-true}
use Rattle.std.proofs.lemmas.List.{map-append, take-map, length-map}
use Rattle.std.proofs.lemmas.Simd.{map-map}
use Rattle.std.proofs.Math.Seq.{take-append_seam, map-set_same}
use Rattle.ec_lists.proofs.Booleans.{Bool-from_both}
use Rattle.ec_terms.specs.declared.ground.Ground.{Ground}
use Rattle.ec_terms.specs.declared.theory.Literal.{Literal}
use Rattle.ec_terms.specs.declared.theory.Rule.{Rule}
use Rattle.ec_terms.specs.declared.theory.Exclusive.{Exclusive}
use Rattle.ec_terms.specs.declared.theory.Theory.{Theory}
use Rattle.ec_axioms.proofs.Members.{IsMember, IsMember_at, IsMember-from_contains, Contains-from_member, IsMember-map, IsMember-from_map, IsMember-append_cases, IsMember-append_left, IsMember-append_right, list_any-member, member-list_any, list_any-false, list_all-member}
use Rattle.ec_changes.proofs.JoinedMembers.{IsMember-flat_map, IsMember-from_flat_map}
use Rattle.ec_cone.specs.declared.node.Node.{Node}
use Rattle.ec_cone.specs.Forms.{Form, form_of, pattern_form, form_eq}
use Rattle.ec_cone.specs.Cone.{cone_has, cone_rules}
use Rattle.ec_cone.specs.ConeLaws.{HasAllBelow}
use Rattle.ec_cone.specs.Growing.{Reads, rule_reads, left_reads, right_reads, sides_read, theory_reads, node_reads, reached_by, is_waiting, is_new, IsGrowing}
use Rattle.ec_cone.proofs.FormEquality.{form_eq-Decides}
use Rattle.ec_cone.proofs.ConeForms.{ConeHasAllBelow-law, ConeIsLeast-law}
use Rattle.ec_cone.proofs.Reached.{is_left, left-reached_by, length-filter_set, map_node_reads-reached_by}

-- ---- what a theory reads

-- with its form, the cone has all that a source of the theory reads
cone_has-read : (theory : Theory) (start : Form) (source : Reads) (form : Form) → IsMember (theory_reads theory) source
    → IsTrue (cone_has theory start source.form) → IsMember source.reads form → IsTrue (cone_has theory start form)
unfolding theory_reads
cone_has-read theory start source form member within read =
    ⊎_elim
    (λ of_rule.
    let found = IsMember-from_map rule_reads theory.rules source of_rule in
    let rule = found.0 in
    let own = subst (λ (s : Reads). IsTrue (cone_has theory start s.form)) (sym found.2) within in
    let literal = IsMember-from_map (λ (l : Literal). pattern_form l.prop) rule.literals form (subst (λ (s : Reads). IsMember s.reads form) (sym found.2) read) in
    subst (λ f. IsTrue (cone_has theory start f)) literal.2
    (below.literals rule literal.0 (Contains-from_member theory.rules rule found.1) (Contains-from_member rule.literals literal.0 literal.1) own))
    (λ of_declaration.
    let found = IsMember-from_flat_map sides_read theory.exclusives source of_declaration in
    let there = Contains-from_member theory.exclusives found.0 found.1 in
    by_side found.0 found.2 (below.rights found.0 there) (below.lefts found.0 there))
    (IsMember-append_cases (map rule_reads theory.rules) (flat_map sides_read theory.exclusives) source member)
  where
    below : HasAllBelow theory start (cone_has theory start)
    below = ConeHasAllBelow-law theory start

    -- a declaration reads one form for each side
    one_read : (one : Form) → IsMember (one ∷ []) form → IsTrue (cone_has theory start one) → IsTrue (cone_has theory start form)
    one_read one (inl same) is = subst (λ f. IsTrue (cone_has theory start f)) same is
    one_read one (inr none) is = absurd none

    by_side : (d : Exclusive) → IsMember (sides_read d) source
        → (IsTrue (cone_has theory start (pattern_form d.left)) → IsTrue (cone_has theory start (pattern_form d.right)))
        → (IsTrue (cone_has theory start (pattern_form d.right)) → IsTrue (cone_has theory start (pattern_form d.left)))
        → IsTrue (cone_has theory start form)
    by_side d (inl is) rights lefts =
        one_read (pattern_form d.right) (subst (λ (s : Reads). IsMember s.reads form) (sym is) read)
        (rights (subst (λ (s : Reads). IsTrue (cone_has theory start s.form)) (sym is) within))
    by_side d (inr (inl is)) rights lefts =
        one_read (pattern_form d.left) (subst (λ (s : Reads). IsMember s.reads form) (sym is) read)
        (lefts (subst (λ (s : Reads). IsTrue (cone_has theory start s.form)) (sym is) within))
    by_side d (inr (inr none)) rights lefts = absurd none

-- ---- at the beginning

-- some of the forms is that of the node
has_form : Node → List Form → Bool
has_form node forms = list_any (form_eq (node_reads node).form) forms

-- new nodes of which those with the start's form are reached
pub IsGrowing-start : (theory : Theory) (start : Form) (nodes : List Node) → map node_reads nodes ≡ theory_reads theory → IsTrue (list_all is_new nodes)
    → IsGrowing theory start (map (reached_by (start ∷ [])) nodes)
IsGrowing-start theory start nodes same fresh = record {
  nodes_of_theory = map_node_reads-reached_by (start ∷ []) nodes ∙ same;
  in_cone = λ node member is.
      let old = from_new node member in
      let met : form_eq (node_reads old.0).form start ≡ true = reached_now old.0.reached _ old.3 (ap (λ (n : Node). n.reached) old.2 ∙ is) in
      subst (λ f. IsTrue (cone_has theory start f)) (sym ((form_eq-Decides (node_reads old.0).form start).0 met) ∙ ap (λ (n : Node). (node_reads n).form) old.2)
      (ConeHasAllBelow-law theory start).itself;
  started = λ node member is.
      let old = from_new node member in
      let met = (form_eq-Decides (node_reads old.0).form start).1 (ap (λ (n : Node). (node_reads n).form) old.2 ∙ sym is) in
      ap (λ (n : Node). n.reached) (sym old.2) ∙ reached_met old.0.reached (form_eq (node_reads old.0).form start) met;
  read = λ node other member there is read.
      let old = from_new node member in
      absurd (false≢true (sym old.4 ∙ ap (λ (n : Node). n.followed) old.2 ∙ is));
}
  where
    -- a node and the new one that it was
    from_new : (node : Node) → Contains (map (reached_by (start ∷ [])) nodes) node
        → (old : Node) × IsMember nodes old × (reached_by (start ∷ []) old ≡ node) × (old.reached ≡ false) × (old.followed ≡ false)
    from_new node member =
        let found = IsMember-from_map (reached_by (start ∷ [])) nodes node (IsMember-from_contains _ node member) in
        let parts = and_parts _ _ (list_all-member is_new nodes found.0 fresh found.1) in
        (found.0, found.1, found.2, not-true _ parts.0, not-true _ parts.1)

    reached_now : (a b : Bool) → a ≡ false → (a || (b || false)) ≡ true → b ≡ true
    reached_now a b was is = grind arith

    reached_met : (a b : Bool) → b ≡ true → (a || (b || false)) ≡ true
    reached_met a b met = grind arith

-- ---- from one to the next

-- what is read at a place that is written
IsMember-from_set : {X : Type 0} (xs : List X) (i : ℕ) (y x : X) → IsMember (set xs i y) x → IsMember xs x ⊎ (y ≡ x)
IsMember-from_set [] i y x member = absurd member
IsMember-from_set (z ∷ xs) zero y x (inl same) = inr same
IsMember-from_set (z ∷ xs) zero y x (inr later) = inl (inr later)
IsMember-from_set (z ∷ xs) (suc i) y x (inl same) = inl (inl same)
IsMember-from_set (z ∷ xs) (suc i) y x (inr later) = ⊎_elim (λ there. inl (inr there)) inr (IsMember-from_set xs i y x later)

-- the nodes once a node was followed
abbrev pub followed_on : List Node → ℕ → Node → List Node
followed_on nodes place node = map (reached_by (node_reads node).reads) (set nodes place (record node { followed = true }))

-- one less is left to follow
pub left-followed_on : (nodes : List Node) (place : ℕ) (node : Node) → place < length nodes → is_left (get_or nodes place node) ≡ true
    → length (filter is_left (followed_on nodes place node)) < length (filter is_left nodes)
left-followed_on nodes place node within left =
    let now : Node = record node { followed = true } in
    let same = left-reached_by (node_reads node).reads (set nodes place now) in
    let less = length-filter_set is_left nodes place now node within left refl in
    omega (arith, same, less)

module _ (theory : Theory) (start : Form) (nodes : List Node) (place : ℕ) (node : Node) (within : place < length nodes)
    (here : get_or nodes place node ≡ node) (is_reached : IsTrue node.reached) (growing : IsGrowing theory start nodes) where
  -- the node is one of them
  own_member : IsMember nodes node
  own_member = IsMember_at nodes node place within here

  -- a node now, and what it was
  record Was (now : Node) : Type 0 where
    old : Node
    member : IsMember nodes old
    same : node_reads old ≡ node_reads now
    reached : now.reached ≡ (old.reached || has_form old (node_reads node).reads)
    followed : IsTrue now.followed → IsTrue old.followed ⊎ (node_reads node ≡ node_reads old)

  was : (now : Node) → Contains (followed_on nodes place node) now → Was now
  unfolding has_form
  was now contains =
      let found = IsMember-from_map (reached_by (node_reads node).reads) (set nodes place (record node { followed = true })) now (IsMember-from_contains _ now contains) in
      ⊎_elim
      (λ other. record {
        old = found.0;
        member = other;
        same = ap node_reads found.2;
        reached = ap (λ (n : Node). n.reached) (sym found.2);
        followed = λ is. inl (ap (λ (n : Node). n.followed) found.2 ∙ is);
      })
      (λ itself. record {
        old = node;
        member = own_member;
        same = ap node_reads (itself ∙ refl) ∙ ap node_reads found.2;
        reached = ap (λ (n : Node). n.reached) (sym found.2) ∙ ap (λ (n : Node). (reached_by (node_reads node).reads n).reached) (sym itself);
        followed = λ is. inr refl;
      })
      (IsMember-from_set nodes place (record node { followed = true }) found.0 found.1)

  -- a form that it reads is in the cone
  read_in_cone : (form : Form) → IsMember (node_reads node).reads form → IsTrue (cone_has theory start form)
  read_in_cone form read =
      cone_has-read theory start (node_reads node) form
      (subst (λ sources. IsMember sources (node_reads node)) growing.nodes_of_theory (IsMember-map node_reads nodes node own_member))
      (growing.in_cone node (Contains-from_member nodes node own_member) is_reached) read

  pub IsGrowing-followed : IsGrowing theory start (followed_on nodes place node)
  unfolding has_form
  IsGrowing-followed = record {
    nodes_of_theory =
        map_node_reads-reached_by (node_reads node).reads (set nodes place (record node { followed = true }))
        ∙ map-set_same node_reads nodes place (record node { followed = true }) node (ap node_reads (sym here))
        ∙ growing.nodes_of_theory;
    in_cone = λ now contains is.
        let w = was now contains in
        subst (λ (r : Reads). IsTrue (cone_has theory start r.form)) w.same
        (⊎_elim
        (λ before. growing.in_cone w.old (Contains-from_member nodes w.old w.member) before)
        (λ met.
        let found = list_any-member (form_eq (node_reads w.old).form) (node_reads node).reads met in
        subst (λ f. IsTrue (cone_has theory start f)) (sym ((form_eq-Decides (node_reads w.old).form found.0).0 found.2)) (read_in_cone found.0 found.1))
        (or_cases _ _ (sym w.reached ∙ is)));
    started = λ now contains is.
        let w = was now contains in
        w.reached ∙ or_left _ _ (growing.started w.old (Contains-from_member nodes w.old w.member) (is ∙ ap (λ (r : Reads). r.form) (sym w.same)));
    read = λ now other contains there is read.
        let w = was now contains in
        let v = was other there in
        let member = IsMember-from_contains (node_reads now).reads (node_reads other).form read in
        let read_form = subst (λ (r : Reads). IsMember (node_reads now).reads r.form) (sym v.same) member in
        let read_old = subst (λ (r : Reads). IsMember r.reads (node_reads v.old).form) (sym w.same) read_form in
        v.reached
        ∙ ⊎_elim
        (λ before.
        or_left _ _ (growing.read w.old v.old (Contains-from_member nodes w.old w.member) (Contains-from_member nodes v.old v.member) before
        (Contains-from_member (node_reads w.old).reads (node_reads v.old).form read_old)))
        (λ own.
        or_right _ _ (member-list_any (form_eq (node_reads v.old).form) (node_reads node).reads (node_reads v.old).form
        (subst (λ (r : Reads). IsMember r.reads (node_reads v.old).form) (sym own) read_old)
        ((form_eq-Decides (node_reads v.old).form (node_reads v.old).form).1 refl)))
        (w.followed is);
  }

-- ---- at the end

module _ (theory : Theory) (start : Form) (nodes : List Node) (growing : IsGrowing theory start nodes) (done : list_any is_waiting nodes ≡ false) where
  -- the start, and the forms that what is reached reads
  found_form : Form → Bool
  found_form form = form_eq start form || list_any (λ (n : Node). n.reached && list_any (form_eq form) (node_reads n).reads) nodes

  -- a node with such a form is reached
  reached-found : (node : Node) → IsMember nodes node → IsTrue (found_form (node_reads node).form) → IsTrue node.reached
  unfolding found_form
  reached-found node member found =
      ⊎_elim
      (λ first. growing.started node (Contains-from_member nodes node member) ((form_eq-Decides start (node_reads node).form).0 first))
      (λ some.
      let form = (node_reads node).form in
      let reader = list_any-member (λ (n : Node). n.reached && list_any (form_eq form) (node_reads n).reads) nodes some in
      let parts = and_parts _ _ reader.2 in
      let read = list_any-member (form_eq form) (node_reads reader.0).reads parts.1 in
      growing.read reader.0 node (Contains-from_member nodes reader.0 reader.1) (Contains-from_member nodes node member)
      (not_waiting reader.0.reached reader.0.followed (list_any-false is_waiting nodes reader.0 done reader.1) parts.0)
      (Contains-from_member (node_reads reader.0).reads form
      (subst (IsMember (node_reads reader.0).reads) (sym ((form_eq-Decides form read.0).0 read.2)) read.1)))
      (or_cases _ _ found)
    where
      not_waiting : (a b : Bool) → (a && not b) ≡ false → a ≡ true → b ≡ true
      not_waiting a b none is = grind arith

  -- and so is all that a source with such a form reads
  found_form-read : (source : Reads) (form : Form) → IsMember (theory_reads theory) source → IsTrue (found_form source.form) → IsMember source.reads form
      → IsTrue (found_form form)
  unfolding found_form
  found_form-read source form member found read =
      let node = IsMember-from_map node_reads nodes source (subst (λ sources. IsMember sources source) (sym growing.nodes_of_theory) member) in
      let is = reached-found node.0 node.1 (subst (λ (r : Reads). IsTrue (found_form r.form)) (sym node.2) found) in
      or_right _ _
      (member-list_any (λ (n : Node). n.reached && list_any (form_eq form) (node_reads n).reads) nodes node.0 node.1
      (and_from _ _ is
      (member-list_any (form_eq form) (node_reads node.0).reads form (subst (λ (r : Reads). IsMember r.reads form) (sym node.2) read)
      ((form_eq-Decides form form).1 refl))))

  -- so they are all that the start rests on
  HasAllBelow-found : HasAllBelow theory start found_form
  unfolding found_form theory_reads
  HasAllBelow-found = record {
    itself = or_left _ _ ((form_eq-Decides start start).1 refl);
    literals = λ rule literal member here found.
        found_form-read (rule_reads rule) (pattern_form literal.prop)
        (IsMember-append_left (map rule_reads theory.rules) (flat_map sides_read theory.exclusives) (rule_reads rule)
        (IsMember-map rule_reads theory.rules rule (IsMember-from_contains theory.rules rule member)))
        found (IsMember-map (λ (l : Literal). pattern_form l.prop) rule.literals literal (IsMember-from_contains rule.literals literal here));
    rights = λ declaration member found.
        found_form-read (left_reads declaration) (pattern_form declaration.right) (side declaration (left_reads declaration) member (inl refl)) found (inl refl);
    lefts = λ declaration member found.
        found_form-read (right_reads declaration) (pattern_form declaration.left) (side declaration (right_reads declaration) member (inr (inl refl))) found (inl refl);
  }
    where
      side : (d : Exclusive) (source : Reads) → Contains theory.exclusives d → IsMember (sides_read d) source → IsMember (theory_reads theory) source
      side d source member own =
          IsMember-append_right (map rule_reads theory.rules) (flat_map sides_read theory.exclusives) source
          (IsMember-flat_map sides_read theory.exclusives d source (IsMember-from_contains theory.exclusives d member) own)

  -- exactly the nodes in the cone are reached
  reached-in_cone : (node : Node) → IsMember nodes node → node.reached ≡ cone_has theory start (node_reads node).form
  reached-in_cone node member =
      Bool-from_both node.reached (cone_has theory start (node_reads node).form)
      (λ is. growing.in_cone node (Contains-from_member nodes node member) is)
      (λ is. reached-found node member (ConeIsLeast-law theory start found_form HasAllBelow-found (node_reads node).form is))

-- functions that agree at each member
map_agree : {X Y : Type 0} (f g : X → Y) (xs : List X) → ((x : X) → IsMember xs x → f x ≡ g x) → map f xs ≡ map g xs
map_agree f g [] agree = refl
map_agree f g (x ∷ xs) agree = ap₂ (λ y ys. y ∷ ys) (agree x (inl refl)) (map_agree f g xs (λ z later. agree z (inr later)))

-- the flags of the first nodes are those of the rules
pub cone_rules-grown : (theory : Theory) (p : Ground) (nodes : List Node) → IsGrowing theory (form_of p) nodes → list_any is_waiting nodes ≡ false
    → map (λ (node : Node). node.reached) (take (length theory.rules) nodes) ≡ cone_rules theory p
unfolding theory_reads
cone_rules-grown theory p nodes growing done =
    let is_in : Reads → Bool = λ source. cone_has theory (form_of p) source.form in
    let count = length theory.rules in
    sym (take-map (λ (node : Node). node.reached) count nodes)
    ∙ ap (take count)
    (map_agree (λ (node : Node). node.reached) (λ (node : Node). is_in (node_reads node)) nodes (reached-in_cone theory (form_of p) nodes growing done)
    ∙ sym (map-map is_in node_reads nodes)
    ∙ ap (map is_in) growing.nodes_of_theory
    ∙ map-append is_in (map rule_reads theory.rules) (flat_map sides_read theory.exclusives)
    ∙ ap (λ flags. flags ++ map is_in (flat_map sides_read theory.exclusives)) (map-map is_in rule_reads theory.rules))
    ∙ ap (λ n. take n (cone_rules theory p ++ map is_in (flat_map sides_read theory.exclusives)))
    (sym (length-map theory.rules (λ (rule : Rule). cone_has theory (form_of p) (pattern_form rule.head))))
    ∙ take-append_seam (cone_rules theory p) (map is_in (flat_map sides_read theory.exclusives))
