-- The marks of blocks are those of their iterations.
use Rattle.std.proofs.Common.{◌≡◌, ℕ, ◌+◌, List, [], ◌∷◌, ◌++◌, map, length, ◌∙◌, ap, arith}
use Rattle.array_maps.specs.Accesses.{Action}
use Rattle.loop_core_model.{specs.Actions.{joined}, proofs.MarkLaws.{marks_tell, marks_merge}}
use Rattle.loop_core_model.specs.Marks.{Visit, numbered, marks_of, marked_reduction, marked_conflict, merged}
use Rattle.loop_core_model.{specs.Kept.{kept, committed_of_kept}, proofs.KeptLaws.{commits_of_kept}}
use Rattle.loop_core_model.specs.KeptLaw.{marks_of_blocks, KeptBlocksTell}

numbered-append : (index : ℕ) (xs ys : List (List Action)) → numbered index (xs ++ ys) ≡ numbered index xs
    ++ numbered (index + length xs) ys
numbered-append index [] ys = let here : index ≡ index + 0 = omega arith in ap (λ n. numbered n ys) here
numbered-append index (x ∷ xs) ys =
    let there : index + 1 + length xs ≡ index + length (x ∷ xs) = omega arith in
    let visit : Visit = record { index = index; actions = x } in
    ap (λ rest. visit ∷ rest) (numbered-append (index + 1) xs ys ∙ ap (λ n. numbered (index + 1) xs ++ numbered n ys)
    there)

marks_of-blocks : (index : ℕ) (blocks : List (List (List Action))) → marks_of (numbered index (joined blocks))
    ≡ marks_of_blocks index blocks
marks_of-blocks index [] = marks_merge.none
marks_of-blocks index (block ∷ blocks) =
    ap marks_of (numbered-append index block (joined blocks))
    ∙ marks_merge.both (numbered index block) (numbered (index + length block) (joined blocks))
    ∙ ap (merged (marks_of (numbered index block))) (marks_of-blocks (index + length block) blocks)

pub kept_blocks_tell : KeptBlocksTell
kept_blocks_tell = record {
  marks = marks_of-blocks;
  conflict = λ test index blocks. marks_tell.conflict test index (joined blocks)
      ∙ ap (marked_conflict test) (marks_of-blocks index blocks);
  commit = λ index blocks word.
      commits_of_kept blocks word
      ∙ ap (λ reduction. committed_of_kept reduction (map (λ iterations. kept iterations word) blocks) word)
      (marks_tell.reduction index (joined blocks) ∙ ap marked_reduction (marks_of-blocks index blocks));
}
