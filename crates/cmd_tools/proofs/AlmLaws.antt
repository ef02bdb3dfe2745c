-- The report of `alm`, from its parts.
use Rattle.std.proofs.Common.{◌≡◌, ℕ, List, Result, Ok, Err, sym, ap, subst, ◌∙◌}
use Rattle.alm_parse.specs.SourceFields.{Source}
use Rattle.alm_parse.specs.Sources.{source_of_text, IsFaultOf}
use Rattle.alm_parse.specs.declared.fault.AlmFault.{AlmFault}
use Rattle.alm_parse.specs.declared.fault.AlmFault.TheVariants as alm
use Rattle.alm_asm.specs.Assembly.{assembled}
use Rattle.obj36_parts.specs.PartsFields.{PartsFields}
use Rattle.m36_status.specs.declared.refusal.Refusal.{Refusal}
use Rattle.m36_status.specs.Refusing as refusing
use Rattle.m36_status.proofs.GivesLaws.{gives_by, memory_given}
use Rattle.cmd_tools.specs.declared.alm_files.AlmFiles.{AlmFiles}
use Rattle.cmd_tools.specs.Reports.{ReportFields}
use Rattle.cmd_tools.specs.Assemblies.{Assembly, with_parts, assembly_of_parsed, assembly_of, IsMadeOf}
use Rattle.cmd_tools.specs.PrintAndAlm.{source_refused, report_of_assembly, alm_report_or_refusal, IsReportOrFault}

-- lines that are assembled
pub made_parts :
    (name : List ℕ) (source : Source) (given : Result PartsFields AlmFault) (parts : PartsFields) (result : Result ReportFields AlmFault)
    → given ≡ Ok parts → IsReportOrFault name result (Ok (record { source = source; parts = parts })) → IsReportOrFault name result (with_parts source given)
made_parts name source given parts result is says = subst (λ g. IsReportOrFault name result (with_parts source g)) (sym is) says

-- and lines that are refused
pub made_refused :
    (source : Source) (given : Result PartsFields AlmFault) (f : AlmFault) → IsFaultOf f given → IsFaultOf f (with_parts source given)
made_refused source given (alm.E1 line column) is = ap (with_parts source) is
made_refused source given (alm.E2 line column) is = ap (with_parts source) is
made_refused source given (alm.E3 line column) is = ap (with_parts source) is
made_refused source given (alm.E4 line column) is = ap (with_parts source) is
made_refused source given (alm.E5 line column) is = ap (with_parts source) is
made_refused source given (alm.E6 line column) is = ap (with_parts source) is
made_refused source given (alm.E7 line column) is = ap (with_parts source) is
made_refused source given (alm.E8 line column) is = ap (with_parts source) is
made_refused source given alm.NoMemory is = tt

pub ruleset made = (made_parts, made_refused)

-- a text that parses as a source
pub made_read :
    (name bytes : List ℕ) (source : Source) (result : Result ReportFields AlmFault)
    → source_of_text bytes ≡ Ok source → IsReportOrFault name result (with_parts source (assembled source)) → IsReportOrFault name result (assembly_of bytes)
unfolding assembly_of
made_read name bytes source result is says = subst (λ g. IsReportOrFault name result (assembly_of_parsed g)) (sym is) says

-- and one that is refused
pub read_refused :
    (bytes : List ℕ) (f : AlmFault) → IsFaultOf f (source_of_text bytes) → IsFaultOf f (assembly_of bytes)
unfolding assembly_of
read_refused bytes (alm.E1 line column) is = ap assembly_of_parsed is
read_refused bytes (alm.E2 line column) is = ap assembly_of_parsed is
read_refused bytes (alm.E3 line column) is = ap assembly_of_parsed is
read_refused bytes (alm.E4 line column) is = ap assembly_of_parsed is
read_refused bytes (alm.E5 line column) is = ap assembly_of_parsed is
read_refused bytes (alm.E6 line column) is = ap assembly_of_parsed is
read_refused bytes (alm.E7 line column) is = ap assembly_of_parsed is
read_refused bytes (alm.E8 line column) is = ap assembly_of_parsed is
read_refused bytes alm.NoMemory is = tt

-- the object and the listing are made
pub told_given :
    (files : AlmFiles) (given : Result Assembly AlmFault) (told : ReportFields) → IsMadeOf (report_of_assembly files.object) told given → refusing.IsRuleResult (Ok told) (alm_report_or_refusal files given)
told_given files given told is = ap (alm_report_or_refusal files) is.is ∙ ap (λ (t : ReportFields). Ok t) (sym is.made_is)

-- or the source is refused
refused_by :
    (files : AlmFiles) (given : Result Assembly AlmFault) (f : AlmFault) (r : Refusal)
    → given ≡ Err f → refusing.IsRuleRefusal r (source_refused files.source f) → refusing.IsRuleResult (Err r) (alm_report_or_refusal files given)
refused_by files given f r is refuses =
    gives_by ReportFields r (source_refused files.source f) (alm_report_or_refusal files given) (ap (alm_report_or_refusal files) is) refuses

pub told_refused :
    (files : AlmFiles) (given : Result Assembly AlmFault) (f : AlmFault) (r : Refusal)
    → IsFaultOf f given → refusing.IsRuleRefusal r (source_refused files.source f) → refusing.IsRuleResult (Err r) (alm_report_or_refusal files given)
told_refused files given (alm.E1 line column) r is refuses = refused_by files given (alm.E1 line column) r is refuses
told_refused files given (alm.E2 line column) r is refuses = refused_by files given (alm.E2 line column) r is refuses
told_refused files given (alm.E3 line column) r is refuses = refused_by files given (alm.E3 line column) r is refuses
told_refused files given (alm.E4 line column) r is refuses = refused_by files given (alm.E4 line column) r is refuses
told_refused files given (alm.E5 line column) r is refuses = refused_by files given (alm.E5 line column) r is refuses
told_refused files given (alm.E6 line column) r is refuses = refused_by files given (alm.E6 line column) r is refuses
told_refused files given (alm.E7 line column) r is refuses = refused_by files given (alm.E7 line column) r is refuses
told_refused files given (alm.E8 line column) r is refuses = refused_by files given (alm.E8 line column) r is refuses
told_refused files given alm.NoMemory r is refuses = memory_given ReportFields r (alm_report_or_refusal files given) refuses

pub ruleset answering = (told_given, told_refused)
