-- One group is written over.
use Rattle.std.proofs.Common.{◌≡◌, ℕ, ◌+◌, ◌-◌, ◌*◌, ◌/◌, ◌<◌, ◌≤◌, List, ◌++◌, ◌∷◌, [], length, get_or, take, drop, set, sym, ap, ◌∙◌, arith, subst}
use Rattle.std.proofs.lemmas.Grind.{common_steps}
use Rattle.std.specs.List.{insert}
use Rattle.std.proofs.lemmas.List.{get_or_read}
use Rattle.ec_blocks.specs.Tiers.{turned, unrolled}
use Rattle.ec_blocks.proofs.TierLemmas.{unrolled-length, head-small, heads-set, whole, shifted-out, group-first, group-end, group-from, group-to, group-place, group-full, groups-most}
use Rattle.ec_blocks.proofs.tiers.Tiers.shift_out.Goals as goal

pub index-head-requires : goal.index-head-requires
index-head-requires g c = omega (arith, ap (λ v. length v.items) c.self.view_is, unrolled-length c.self.inside.heads.items c.self.inside.members.items, c.self.invariant.0)

pub take_out_of_group-out-requires-clause-group : goal.take_out_of_group-out-requires-clause-group
take_out_of_group-out-requires-clause-group g c = omega (arith, ap (λ v. length v.items) c.self.view_is, unrolled-length c.self.inside.heads.items c.self.inside.members.items, c.deref_mut.ensures.len)

pub take_out_of_group-out-requires-clause-head : goal.take_out_of_group-out-requires-clause-head
take_out_of_group-out-requires-clause-head g c =
    let count : length c.self.inside.heads.items ≡ length c.self.inside.members.items / 64 = sym c.self.inside.heads.ok.0 ∙ c.self.invariant.0 ∙ ap (λ n. n / 64) c.self.inside.members.ok.0 in
    let grouped = group-full c.args.k (length c.args.self.now.items) (length c.self.inside.members.items) (length c.self.inside.heads.items) c.requires
    (sym (unrolled-length c.self.inside.heads.items c.self.inside.members.items) ∙ ap (λ v. length v.items) c.self.view_is) count in
    subst (λ n. n < 64) (sym (get_or_read c.self.inside.heads.items (c.args.k / 64) c.index-head.result.now grouped c.index-head.ensures 0))
    (head-small c.self.inside.heads.items (c.args.k / 64) c.self.invariant.1 grouped)

pub invariant_of-self : goal.invariant_of-self
invariant_of-self g c = (c.self.invariant.0, heads-set c.self.inside.heads.items (c.args.k / 64) c.take_out_of_group-out.result.1 c.self.invariant.1 c.take_out_of_group-out.ensures.head)

pub returns-clause-items : goal.returns-clause-items
returns-clause-items g c =
    let hs : List ℕ = c.self.inside.heads.items in
    let ms : List _ = c.self.inside.members.items in
    let group : ℕ = c.args.k / 64 in
    let first : ℕ = c.args.k / 64 * 64 in
    let end : ℕ = 64 * (c.args.k / 64) + 64 in
    let ring : List _ = take 64 (drop first c.take_out_of_group-out.new.members) in
    let count : length hs ≡ length ms / 64 = sym c.self.inside.heads.ok.0 ∙ c.self.invariant.0 ∙ ap (λ n. n / 64) c.self.inside.members.ok.0 in
    let grouped : group < length hs = group-full c.args.k (length c.args.self.now.items) (length ms) (length hs) c.requires (sym (unrolled-length hs ms) ∙ ap (λ v. length v.items) c.self.view_is) count in
    let full : 64 * length hs ≤ length ms = groups-most (length ms) (length hs) count in
    let head : c.index-head.result.now ≡ get_or hs group 0 = get_or_read hs group c.index-head.result.now grouped c.index-head.ensures 0 in
    let made : turned (get_or hs group 0) (take 64 (drop first ms)) ++ c.args.x ∷ [] ≡ insert (turned c.take_out_of_group-out.result.1 ring) (c.args.k - first) c.take_out_of_group-out.result.0 =
    ap (λ n. turned n (take 64 (drop first ms)) ++ c.args.x ∷ []) (sym head)
    ∙ ap (λ us. turned c.index-head.result.now (take 64 (drop first us)) ++ c.args.x ∷ []) (sym c.deref_mut.ensures.value) ∙ c.take_out_of_group-out.ensures.ring
    ∙ ap (λ a. insert (turned c.take_out_of_group-out.result.1 ring) a c.take_out_of_group-out.result.0) (sym (group-place c.args.k)) in
    let written : take c.self.inside.members.len (c.take_out_of_group-out.new.members ++ drop (length c.take_out_of_group-out.new.members) ms) ≡ take first ms ++ (ring ++ drop end ms) =
    whole c.self.inside.members.len c.take_out_of_group-out.new.members ms (c.take_out_of_group-out.ensures.len ∙ c.deref_mut.ensures.len) ∙ c.take_out_of_group-out.ensures.others
    ∙ ap (λ us. take first us ++ (ring ++ drop (first + 64) us)) c.deref_mut.ensures.value ∙ ap (λ n. take first ms ++ (ring ++ drop n ms)) (sym (group-end c.args.k)) in
    ap (λ v. insert v.items end c.args.x) (sym c.self.view_is)
    ∙ shifted-out hs ms group first end grouped full (group-first c.args.k) (group-end c.args.k) c.args.k (group-from c.args.k) (group-to c.args.k) (head-small hs group c.self.invariant.1 grouped)
    c.take_out_of_group-out.result.1 ring c.args.x c.take_out_of_group-out.result.0 c.take_out_of_group-out.ensures.full made
    ∙ ap (λ us. insert (unrolled (set hs group c.take_out_of_group-out.result.1) us) c.args.k c.take_out_of_group-out.result.0) (sym written)

pub returns-clause-len : goal.returns-clause-len
returns-clause-len g c =
    let hs : List ℕ = set c.self.inside.heads.items (c.args.k / 64) c.take_out_of_group-out.result.1 in
    let new : List _ = c.take_out_of_group-out.new.members in
    let ms : List _ = c.self.inside.members.items in
    unrolled-length hs (take c.self.inside.members.len (new ++ drop (length new) ms))
    ∙ ap length (whole c.self.inside.members.len new ms (c.take_out_of_group-out.ensures.len ∙ c.deref_mut.ensures.len))
    ∙ c.take_out_of_group-out.ensures.len ∙ c.deref_mut.ensures.len ∙ c.self.inside.members.ok.0 ∙ sym (unrolled-length c.self.inside.heads.items ms) ∙ ap (λ v. length v.items) c.self.view_is

pub index_mut-requires : goal.index_mut-requires
index_mut-requires c = grind (arith, common_steps)

pub returns-clause-room : goal.returns-clause-room
returns-clause-room c = grind (arith, common_steps)
