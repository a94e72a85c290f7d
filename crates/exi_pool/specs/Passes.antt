-- A pool and its passes, as contracts name them.
use Rattle.std.specs.Prelude.{ℕ, ◌+◌, ◌-◌, ◌^◌, ◌≤◌, min}
use Rattle.crossbeam_queue.specs.Passes.{view, IsPassOf}
use Rattle.exi_pool.specs.declared.view.View.{View}
use Rattle.exi_pool.specs.declared.pool.Pool.{Pool}
use Rattle.exi_pool.specs.declared.pass.PoolPass.{PoolPass}

-- what a pass knows
abbrev pub view_of : PoolPass → View
view_of p = view p.pass

-- the pass was made with this pool
abbrev pub IsOf : Pool → PoolPass → Type 0
IsOf pool p = IsPassOf pool.queue p.pass

-- how many of its takes found no page
abbrev pub dry_of : PoolPass → ℕ
dry_of p = p.dry

-- a count that stands at its type's end, or has risen
abbrev pub Rose : ℕ → ℕ → Type 0
Rose old new = min (old + 1) (2 ^ 64 - 1) ≤ new
