-- Several names, and bounds of the growth of sections.
use Rattle.std.proofs.Common.{◌≡◌, ℕ, ◌+◌, ◌-◌, ◌*◌, ◌≤◌, List, [], ◌∷◌, ◌++◌, refl, arith, ◌∙◌}
use Rattle.alm_asm.specs.Growth.{with_name, with_names, GrowsAtMost}
use Rattle.alm_asm.specs.declared.growth.Growth.{Growth}

pub names_then : (g : Growth) (names more : List (List ℕ)) → with_names (with_names g names) more ≡ with_names g (names ++ more)
unfolding with_names
names_then g [] more = refl
names_then g (name ∷ names) more = names_then (with_name g name) names more

-- one more argument
pub larger_more :
    (arguments left more : ℕ) (first before after : Growth) → left ≡ more + 1 → left ≤ arguments
    → GrowsAtMost ((arguments - left) * 11) first before → GrowsAtMost 11 before after
    → GrowsAtMost ((arguments - more) * 11) first after
larger_more arguments left more first before after e within so grew =
    record {
      definition = omega (arith, e, within, so.definition, grew.definition);
      symbol = grew.symbol ∙ so.symbol;
    }
