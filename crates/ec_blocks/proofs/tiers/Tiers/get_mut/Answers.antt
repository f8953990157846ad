-- What lies at the place of the member, and what is left there.
use Rattle.std.proofs.Common.{◌<◌, ◌*◌, ℕ, List, Some, length, get_or, set, refl, sym, ap, ◌∙◌, arith}
use Rattle.std.specs.Prelude.{min}
use Rattle.std.specs.Vec.{vec_capacity}
use Rattle.std.proofs.lemmas.Option.{slice_get-get_or}
use Rattle.ec_blocks.specs.Tiers.{Tiered, unrolled, place_of}
use Rattle.ec_blocks.proofs.TierLemmas.{unrolled-length, place-within, place-get, place-set}
use Rattle.ec_blocks.proofs.tiers.Tiers.get_mut.Goals as goal

abbrev the_tiered : {X : Type 0} → List X → ℕ → Tiered X
the_tiered xs n = record { items = xs; room = n }

pub index_mut-requires : goal.index_mut-requires
index_mut-requires g c =
    let within : c.args.k < length c.self.inside.members.items = omega (arith, ap (λ v. length v.items) c.self.view_is, unrolled-length c.self.inside.heads.items c.self.inside.members.items) in
    omega (arith, place-within c.self.inside.heads.items c.self.inside.members.items (omega (arith, c.self.invariant.0)) c.self.invariant.1 c.args.k within, c.place_of-place.ensures, ap (λ hs. place_of hs c.args.k) c.deref.ensures.value)

pub returns : goal.returns
returns g c =
    let within : c.args.k < length c.self.inside.members.items = omega (arith, ap (λ v. length v.items) c.self.view_is, unrolled-length c.self.inside.heads.items c.self.inside.members.items) in
    let place = c.place_of-place.ensures ∙ ap (λ hs. place_of hs c.args.k) c.deref.ensures.value in (
      (
        refl,
        λ w. ap (λ (xs : List _). the_tiered xs (min (vec_capacity c.self.inside.members) (64 * vec_capacity c.self.inside.heads)))
            (ap (λ n. unrolled c.self.inside.heads.items (set c.self.inside.members.items n w)) place
            ∙ place-set c.self.inside.heads.items c.self.inside.members.items (omega (arith, c.self.invariant.0)) c.self.invariant.1 c.args.k within w)
            ∙ ap (λ v. the_tiered (set v.items c.args.k w) v.room) c.self.view_is,
      ),
      record {
        lends = tt;
        member = slice_get-get_or c.args.self.now.items c.args.k c.index_mut.result.now c.requires
            ∙ ap Some (ap (λ v. get_or v.items c.args.k c.index_mut.result.now) (sym c.self.view_is)
            ∙ place-get c.self.inside.heads.items c.self.inside.members.items (omega (arith, c.self.invariant.0)) c.self.invariant.1 c.args.k within c.index_mut.result.now
            ∙ ap (λ n. get_or c.self.inside.members.items n c.index_mut.result.now) (sym place) ∙ sym c.index_mut.ensures.value);
      },
    )
