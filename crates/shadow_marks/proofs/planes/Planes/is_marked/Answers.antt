use Rattle.std.{proofs.Common.{◌≡◌, ℕ, ◌<◌, List, length, get_or, ◌∙◌, arith}, specs.Prelude.{slice_index}}
use Rattle.std.proofs.lemmas.List.{get_or_default}
use Rattle.array_maps.specs.declared.access.Op.TheVariants.{Add, Or, And, Xor, AddH}
use Rattle.shadow_marks.proofs.ClearLaws.{unmarked_words}
use Rattle.shadow_marks.proofs.planes.Planes.is_marked.Goals as goal

-- a page is within each plane
in_plane : (words : List ℕ) (count pages page : ℕ) → length words ≡ pages → count ≡ length words → page < pages
    → page < count
in_plane words count pages page many long inside = omega (arith, many, long, inside)

pub index-requires-2 : goal.index-requires-2
index-requires-2 c = in_plane _ _ _ _ (c.requires.whole.by Add).count c.args.self.now.operators.add.ok.0
    c.requires.within

pub index-requires-3 : goal.index-requires-3
index-requires-3 c = in_plane _ _ _ _ (c.requires.whole.by Or).count c.args.self.now.operators.or.ok.0
    c.requires.within

pub index-requires-4 : goal.index-requires-4
index-requires-4 c = in_plane _ _ _ _ (c.requires.whole.by And).count c.args.self.now.operators.and.ok.0
    c.requires.within

pub index-requires-5 : goal.index-requires-5
index-requires-5 c = in_plane _ _ _ _ (c.requires.whole.by Xor).count c.args.self.now.operators.xor.ok.0
    c.requires.within

pub index-requires-6 : goal.index-requires-6
index-requires-6 c = in_plane _ _ _ _ (c.requires.whole.by AddH).count c.args.self.now.operators.addh.ok.0
    c.requires.within

-- and its word is read there
read_at : (words : List ℕ) (pages page d : ℕ) → length words ≡ pages → page < pages
    → get_or words page d ≡ slice_index words page
read_at words pages page d many inside = get_or_default words page d 0 (omega (arith, many, inside))

pub returns : goal.returns
returns c =
    let by = c.requires.whole.by in
    let within = c.requires.within in
    unmarked_words c.args.self.now c.args.page _ _ _ _ _ _
    (c.index.ensures ∙ read_at _ _ _ _ c.requires.whole.plain.count within)
    (c.index-2.ensures ∙ read_at _ _ _ _ (by Add).count within)
    (c.index-3.ensures ∙ read_at _ _ _ _ (by Or).count within)
    (c.index-4.ensures ∙ read_at _ _ _ _ (by And).count within)
    (c.index-5.ensures ∙ read_at _ _ _ _ (by Xor).count within)
    (c.index-6.ensures ∙ read_at _ _ _ _ (by AddH).count within)
