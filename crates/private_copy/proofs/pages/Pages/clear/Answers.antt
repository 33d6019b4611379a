use Rattle.std.proofs.Common.{◌≡◌, ◌-◌, refl, sym, ◌∙◌, arith, length-set, get_or-set_same, get_or-set_other, None}
use Rattle.std.proofs.Common.{Some}
use Rattle.std.{specs.Prelude.{slice_get}, proofs.lemmas.List.{get_or_past}}
use Rattle.private_copy.proofs.{ClearLaws.{placed_among, one_back, all_blank}, pages.Pages.clear.Goals.{In-Some}}
use Rattle.private_copy.proofs.pages.Pages.clear.Goals as goal

pub loop-self-init : goal.loop-self-init
loop-self-init c = record {
  order = refl;
  long = refl;
  within = c.self.invariant.within;
  among = placed_among c.self.inside.order.keys c.self.inside.placed c.self.inside.table.items c.self.invariant.placed;
  spare = c.self.invariant.blank;
}

-- the number that was read is that of the page placed last
last_placed : (c : In-Some) → slice_get c.loop-self.self-inside.order.keys (c.loop-self.self-inside.placed - 1)
    ≡ Some c.in-Some.number
last_placed c = sym c.get_index.ensures.key ∙ sym c.copied.ensures ∙ c.in-Some.is

pub loop-self-preserved-then-number-len : goal.loop-self-preserved-then-number-len
loop-self-preserved-then-number-len c =
    let held = c.loop-self.invariant in
    let table = c.loop-self.self-inside.table in
    let number = c.in-Some.number in
    record {
      order = held.order;
      long = length-set _ _ _ ∙ held.long;
      within = omega (arith, held.within);
      among = one_back _ _ _ number table.items _ (omega (arith, c.loop-self-test.true))
          (last_placed (goal.at.loop-self-preserved-then-number-len c).In-Some)
          (rw (
            get_or-set_same table.items number c.take_back.new.place None
                (omega (arith, c.if-number-len.true, c.len.ensures, table.ok.0)),
            c.take_back.ensures.taken,
          ) refl)
          (λ page other. get_or-set_other table.items number page c.take_back.new.place None other) held.among;
      spare = c.take_back.ensures.spare;
    }

pub loop-self-preserved-else-number-len : goal.loop-self-preserved-else-number-len
loop-self-preserved-else-number-len c =
    let held = c.loop-self.invariant in
    let table = c.loop-self.self-inside.table in
    record {
      order = held.order;
      long = held.long;
      within = omega (arith, held.within);
      among = one_back _ _ _ c.in-Some.number table.items table.items (omega (arith, c.loop-self-test.true))
          (last_placed (goal.at.loop-self-preserved-else-number-len c).In-Some)
          (rw (get_or_past table.items c.in-Some.number None
          (omega (arith, c.if-number-len.false, c.len.ensures, table.ok.0))) refl) (λ page other. refl) held.among;
      spare = held.spare;
    }

pub returns-clause-cells : goal.returns-clause-cells
returns-clause-cells c e =
    let now = c.loop-self.self-inside in
    let end = c.loop-self-test.false in
    all_blank now.order.keys now.placed now.table.items (omega (arith, end)) c.loop-self.invariant.among e
