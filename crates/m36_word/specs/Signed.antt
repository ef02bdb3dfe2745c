-- Numbers in two's complement.
use Rattle.std.specs.Prelude.{ℕ, ℤ, pos, ◌-ℤ◌, ◌*◌, nat_lt, if◌then◌else◌}

-- The value in two's complement of a number of k bits, where `half` is 2^(k-1). It is v itself if v
-- is below half, and otherwise v - 2^k.
unfoldable pub signed : ℕ → ℕ → ℤ
signed half v = if nat_lt v half then pos v else (pos v -ℤ pos (2 * half))
