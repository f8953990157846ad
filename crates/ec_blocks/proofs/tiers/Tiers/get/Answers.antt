-- What lies at the place of the member.
use Rattle.std.proofs.Common.{◌<◌, Some, length, get_or, sym, ap, ◌∙◌, arith}
use Rattle.std.proofs.lemmas.Option.{slice_get-get_or}
use Rattle.ec_blocks.specs.Tiers.{place_of}
use Rattle.ec_blocks.proofs.TierLemmas.{unrolled-length, place-within, place-get}
use Rattle.ec_blocks.proofs.tiers.Tiers.get.Goals as goal

pub index-requires : goal.index-requires
index-requires g c =
    let within : c.args.k < length c.self.inside.members.items = omega (arith, ap (λ v. length v.items) c.self.view_is, unrolled-length c.self.inside.heads.items c.self.inside.members.items) in
    omega (arith, place-within c.self.inside.heads.items c.self.inside.members.items (omega (arith, c.self.invariant.0)) c.self.invariant.1 c.args.k within, c.place_of.ensures, ap (λ hs. place_of hs c.args.k) c.deref.ensures.value)

pub returns : goal.returns
returns g c =
    let within : c.args.k < length c.self.inside.members.items = omega (arith, ap (λ v. length v.items) c.self.view_is, unrolled-length c.self.inside.heads.items c.self.inside.members.items) in
    slice_get-get_or c.args.self.now.items c.args.k c.index.result.now c.requires
    ∙ ap Some (ap (λ v. get_or v.items c.args.k c.index.result.now) (sym c.self.view_is)
    ∙ place-get c.self.inside.heads.items c.self.inside.members.items (omega (arith, c.self.invariant.0)) c.self.invariant.1 c.args.k within c.index.result.now
    ∙ ap (λ n. get_or c.self.inside.members.items n c.index.result.now) (sym (c.place_of.ensures ∙ ap (λ hs. place_of hs c.args.k) c.deref.ensures.value)) ∙ sym c.index.ensures)
