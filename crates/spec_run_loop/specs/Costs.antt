-- What pays: by how many workers a loop is run, and over how many blocks. Work and costs are counted in instructions of
-- iterations that go together.
use Rattle.std.specs.Prelude.{ℕ, ◌+◌, ◌*◌, ◌/◌, Bool, nat_lt, min, max, if◌then◌else◌}
use Rattle.bpf_verify_sound.specs.Soundness.{most_from}
use Rattle.loop_core_split.specs.declared.plan.Plan.{Plan}
use Rattle.spec_run_loop.specs.Jobs.{JobOf}

-- what an instruction of an iteration costs that runs alone
abbrev pub alone : ℕ
alone = 12

-- how many of its own instructions an iteration by blocks costs besides them
abbrev pub bookkeeping : ℕ
bookkeeping = 30

-- what is worth a thread
abbrev pub share : ℕ
share = 2000000

-- a loop of fewer shares is run by one worker
abbrev pub least_shares : ℕ
least_shares = 4

-- how many iterations an element a worker has at least, where a loop adds up
abbrev pub visits : ℕ
visits = 32

-- for how many elements all blocks together keep marks and copies at most
abbrev pub most_kept : ℕ
most_kept = 1048576

-- what so many elements cost each worker and each block
abbrev pub cost_of_elements : ℕ → ℕ
cost_of_elements elements = 400 * elements

-- the most instructions of an iteration: those of the longest path of its callback
abbrev pub instructions : JobOf → ℕ
instructions job = most_from job.program job.call.callback

-- the most work of all iterations in order, and by blocks
abbrev pub work_in_order : JobOf → ℕ
work_in_order job = job.call.n * instructions job

abbrev pub work_by_blocks : JobOf → ℕ
work_by_blocks job = alone * (work_in_order job + job.call.n * bookkeeping)

-- how many shares so much work has, where each worker keeps marks and a copy of this many elements
abbrev pub shares_of : (work elements : ℕ) → ℕ
shares_of work elements = work / (share + cost_of_elements elements)

-- how many workers so much work keeps busy: those of the plan, and no more than there are shares or blocks; one where
-- the shares are few
abbrev pub useful_workers : (work elements : ℕ) → Plan → ℕ
useful_workers work elements plan =
    if nat_lt (shares_of work elements) least_shares then 1
    else min (min plan.workers (shares_of work elements)) plan.blocks

-- the workers of a loop that adds up: those that it keeps busy, and no more than have as many iterations an element
-- as are worth it; one at least
abbrev pub sum_workers : JobOf → (elements : ℕ) → ℕ
sum_workers job elements =
    max (min (job.call.n / visits / max elements 1) (useful_workers (work_in_order job) 0 job.plan)) 1

-- the blocks of so much work for several workers: those that pay what their elements cost, and of as many elements as
-- may be kept; one for each worker at least, and at most as many as the plan has
abbrev pub useful_blocks : (work elements most workers : ℕ) → ℕ
useful_blocks work elements most workers =
    min (max (min (work / cost_of_elements (max elements 1)) (most_kept / max elements 1)) workers) most

-- an iteration in order is cheaper than its share on the private copies of so many workers
abbrev pub copies_cost_more : JobOf → (workers : ℕ) → Bool
copies_cost_more job workers = nat_lt (instructions job * workers) (alone * (instructions job + bookkeeping))
