use Rattle.std.{proofs.Common.{rules, ◌≡◌, ℤ, w16, to_z, of_z, refl, subst}, specs.Prelude.{slice_index}}
use Rattle.bpf_step_model.specs.AreaWords.{byte_named}
use Rattle.row_facts.specs.Facts.{IsSure}
use Rattle.row_facts.proofs.site.site_at.Goals as goal

pub returns : goal.returns
returns c =
    let offset_is : to_z w16 (of_z w16 c.args.place.offset) ≡ c.args.place.offset = search rules in
    record {
      same = refl;
      is = record {
        there = c.requires;
        byte = λ index caller words values are fit there.
            let x = slice_index values c.args.place.address in
            let P : ℤ → Type 0 = λ z. IsSure c.byte_of.result index (byte_named x z) in
            subst P offset_is (c.byte_of.ensures index x (c.in_ok-address.ensures.each index caller words values are
            fit there));
      };
    }
