-- What a copy keeps its pages and flags in.
use Rattle.std.specs.Prelude.{ℕ}
use Rattle.shadow_marks.specs.Iteration.{element_count}
use Rattle.private_copy.specs.declared.workspace.CopyWorkspace.{CopyWorkspace}

-- the number of elements that it is for
abbrev pub copy_elements : CopyWorkspace → ℕ
copy_elements workspace = element_count workspace.flags
