-- Objects that are made of sources.
use Rattle.std.proofs.Common.{◌≡◌, ℕ, ◌+◌, ◌<◌, ◌≤◌, List, [], ◌∷◌, ◌++◌, length, drop, get_or, Result, Ok, Err, refl}
use Rattle.std.proofs.Common.{sym, ap, subst, ◌∙◌}
use Rattle.std.proofs.lemmas.List.{drop_more, at_drop_all}
use Rattle.alm_parse.specs.SourceFields.{Source}
use Rattle.alm_parse.specs.Sources.{source_of_text, IsFaultOf}
use Rattle.alm_parse.specs.declared.fault.AlmFault.{AlmFault}
use Rattle.alm_parse.specs.declared.fault.AlmFault.TheVariants as alm
use Rattle.alm_asm.specs.Assembly.{assembled}
use Rattle.obj36_parts.specs.PartsFields.{PartsFields}
use Rattle.m36_gen.specs.declared.files.File.{File}
use Rattle.m36_status.specs.declared.refusal.Refusal.{Refusal}
use Rattle.m36_status.specs.declared.refusal.Refusal.TheVariants.{BadFile, NoMemory}
use Rattle.m36_status.specs.declared.setting.Set.{Set}
use Rattle.m36_status.specs.Refusing.{RuleResult}
use Rattle.m36_status.specs.Refusing as refusing
use Rattle.m36_status.proofs.GivesLaws.{gives_by, memory_given}
use Rattle.cmd_tools.specs.Assemblies.{Assembly, with_parts, assembly_of_parsed, assembly_of, object_bytes, IsMadeOf}
use Rattle.cmd_tools.specs.PrintAndAlm.{source_refused}
use Rattle.cmd_tools.proofs.AlmLaws.{made_refused, read_refused}
use Rattle.m36_text.specs.Results.{and_then}
use Rattle.cmd_make.specs.Making.{object_name, object_set_or_refusal, object_of, with_objects, assembly_bytes, ObjectResult}

-- ---- one object

pub content_made :
    (source : Source) (given : Result PartsFields AlmFault) (parts : PartsFields) (content : List ℕ)
    → given ≡ Ok parts → content ≡ object_bytes parts → IsMadeOf assembly_bytes content (with_parts source given)
content_made source given parts content is packs = record {
  assembly = record { source = source; parts = parts };
  is = ap (with_parts source) is;
  made_is = packs;
}

pub ruleset made = (content_made, made_refused)

pub content_read :
    (bytes : List ℕ) (source : Source) (result : Result (List ℕ) AlmFault)
    → source_of_text bytes ≡ Ok source → ObjectResult result (with_parts source (assembled source))
    → ObjectResult result (assembly_of bytes)
unfolding assembly_of
content_read bytes source result is says = subst (λ g. ObjectResult result (assembly_of_parsed g)) (sym is) says

pub ruleset parsing = (content_read, read_refused)

pub object_given :
    (source name content : List ℕ) (given : Result Assembly AlmFault)
    → name ≡ object_name source → IsMadeOf assembly_bytes content given
    → refusing.IsRuleResult (Ok (record { name = name; content = content })) (object_set_or_refusal source given)
object_given source name content given named is =
    ap (object_set_or_refusal source) is.is
    ∙ (λ i. Ok (record { name = sym named i; content = sym is.made_is i }))

-- the source is refused
refused_by :
    (source : List ℕ) (given : Result Assembly AlmFault) (f : AlmFault) (r : Refusal)
    → given ≡ Err f → refusing.IsRuleRefusal r (source_refused source f) → refusing.IsRuleResult (Err r) (object_set_or_refusal source given)
refused_by source given f r is refuses =
    gives_by Set r (source_refused source f) (object_set_or_refusal source given) (ap (object_set_or_refusal source) is) refuses

pub object_refused :
    (source : List ℕ) (given : Result Assembly AlmFault) (f : AlmFault) (r : Refusal)
    → IsFaultOf f given → refusing.IsRuleRefusal r (source_refused source f) → refusing.IsRuleResult (Err r) (object_set_or_refusal source given)
object_refused source given (alm.E1 line column) r is refuses =
    refused_by source given (alm.E1 line column) r is refuses
object_refused source given (alm.E2 line column) r is refuses =
    refused_by source given (alm.E2 line column) r is refuses
object_refused source given (alm.E3 line column) r is refuses =
    refused_by source given (alm.E3 line column) r is refuses
object_refused source given (alm.E4 line column) r is refuses =
    refused_by source given (alm.E4 line column) r is refuses
object_refused source given (alm.E5 line column) r is refuses =
    refused_by source given (alm.E5 line column) r is refuses
object_refused source given (alm.E6 line column) r is refuses =
    refused_by source given (alm.E6 line column) r is refuses
object_refused source given (alm.E7 line column) r is refuses =
    refused_by source given (alm.E7 line column) r is refuses
object_refused source given (alm.E8 line column) r is refuses =
    refused_by source given (alm.E8 line column) r is refuses
object_refused source given alm.NoMemory r is refuses = memory_given Set r (object_set_or_refusal source given) refuses

pub ruleset giving = (object_given, object_refused)

-- ---- one object after another

first_object :
    (sets : List Set) (source : File) (sources : List File)
    → with_objects sets (source ∷ sources) ≡ and_then (object_of source)
    (λ object. with_objects (sets ++ object ∷ []) sources)
unfolding with_objects
first_object sets source sources = refl

no_object : (sets : List Set) → with_objects sets [] ≡ Ok sets
unfolding with_objects
no_object sets = refl

left_objects :
    (sources : List File) (i : ℕ) (source : File) (now : List Set)
    → i < length sources → source ≡ get_or sources i source
    → with_objects now (drop i sources) ≡ and_then (object_of source)
    (λ object. with_objects (now ++ object ∷ []) (drop (i + 1) sources))
left_objects sources i source now inside at =
    ap (with_objects now) (drop_more sources i source inside)
    ∙ ap (λ s. with_objects now (s ∷ drop (i + 1) sources)) (sym at) ∙ first_object now source (drop (i + 1) sources)

pub object_more :
    (sources : List File) (i : ℕ) (source : File) (object : Set) (now next : List Set) (whole : RuleResult (List Set))
    → i < length sources → source ≡ get_or sources i source → object_of source ≡ Ok object → next ≡ now ++ object ∷ []
    → with_objects now (drop i sources) ≡ whole → with_objects next (drop (i + 1) sources) ≡ whole
object_more sources i source object now next whole inside at is added so_far =
    ap (λ n. with_objects n (drop (i + 1) sources)) added
    ∙ sym (ap (λ o. and_then o (λ object. with_objects (now ++ object ∷ []) (drop (i + 1) sources))) is)
    ∙ sym (left_objects sources i source now inside at) ∙ so_far

stopped :
    (r : Refusal) (given : RuleResult Set) (next : Set → RuleResult (List Set)) → refusing.IsRuleResult {A = Set} (Err r) given
    → refusing.IsRuleResult {A = List Set} (Err r) (and_then given next)
stopped (BadFile bad) given next gives = ap (λ g. and_then g next) gives
stopped NoMemory given next gives = tt

pub object_stop :
    (sources : List File) (i : ℕ) (source : File) (r : Refusal) (now : List Set) (whole : RuleResult (List Set))
    → i < length sources → source ≡ get_or sources i source → refusing.IsRuleResult {A = Set} (Err r) (object_of source)
    → with_objects now (drop i sources) ≡ whole → refusing.IsRuleResult {A = List Set} (Err r) whole
object_stop sources i source r now whole inside at gives so_far =
    subst (λ w. refusing.IsRuleResult {A = List Set} (Err r) w) (sym (left_objects sources i source now inside at) ∙ so_far)
    (stopped r (object_of source) (λ object. with_objects (now ++ object ∷ []) (drop (i + 1) sources)) gives)

pub objects_end :
    (sources : List File) (i : ℕ) (now : List Set) (whole : RuleResult (List Set))
    → length sources ≤ i → with_objects now (drop i sources) ≡ whole → refusing.IsRuleResult (Ok now) whole
objects_end sources i now whole past so_far =
    sym so_far ∙ ap (with_objects now) (at_drop_all (λ (l : List File). l) sources i past) ∙ no_object now

pub ruleset objects_in_turn = (object_more, object_stop, objects_end)
