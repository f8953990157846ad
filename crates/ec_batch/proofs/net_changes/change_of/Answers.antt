-- Member by member, what comes goes into the two lists.
use Rattle.std.proofs.Common.{◌≡◌, ◌≤◌, ◌+◌, ℕ, suc, List, [], ◌∷◌, ◌++◌, length, map, append-nil, append_assoc, sym, ap, ◌∙◌, arith}
use Rattle.ec_batch.proofs.net_changes.change_of.Goals as goal

-- the value of the first member that is left comes to the end
list-next : {X Y : Type 0} (f : X → Y) (so_far more whole : List Y) (left later : List X) (x : X) → left ≡ x ∷ later → more ≡ so_far ++ f x ∷ [] → so_far ++ map f left ≡ whole → more ++ map f later ≡ whole
list-next f so_far more whole left later x first added were =
    ap (λ ys. ys ++ map f later) added ∙ append_assoc so_far (f x ∷ []) (map f later) ∙ ap (λ xs. so_far ++ map f xs) (sym first) ∙ were

-- where no member is left, all have come
list-end : {X Y : Type 0} (f : X → Y) (so_far whole : List Y) (left : List X) → length left ≡ 0 → so_far ++ map f left ≡ whole → so_far ≡ whole
list-end f so_far whole [] none were = sym (append-nil so_far) ∙ were
list-end f so_far whole (x ∷ xs) none were = cc

-- one member more takes one place of the room
room-next : (before rest : ℕ) {after left capacity same : ℕ} → after ≡ before + 1 → same ≡ capacity → left ≡ suc rest → before + left ≤ capacity → after + rest ≤ same
room-next before rest more same less room = omega arith

pub loop-added-preserved : goal.loop-added-preserved
loop-added-preserved g c =
    let inv = c.loop-added.invariant in
    let first = c.in-Some.ensures.steps.0 in
    let add = c.push_reserved.ensures in
    let entries = c.push_reserved-in-loop-added.ensures in
    record {
      add = list-next (λ added. added.event) _ _ _ _ _ _ first add.items inv.add;
      entries = list-next (λ added. added.entries) _ _ _ _ _ _ first entries.items inv.entries;
      room = room-next _ _ add.len add.capacity (ap length first) inv.room;
      entries_room = room-next _ _ entries.len entries.capacity (ap length first) inv.entries_room;
    }

pub returns-clause-add : goal.returns-clause-add
returns-clause-add g c = c.from_vec-2.ensures ∙ list-end (λ added. added.event) _ _ _ (sym c.loop-added.added-iterator.rest.ok.0 ∙ c.in-None.ensures.steps.0) c.loop-added.invariant.add

pub returns-clause-entries : goal.returns-clause-entries
returns-clause-entries g c = c.from_vec-3.ensures ∙ list-end (λ added. added.entries) _ _ _ (sym c.loop-added.added-iterator.rest.ok.0 ∙ c.in-None.ensures.steps.0) c.loop-added.invariant.entries
