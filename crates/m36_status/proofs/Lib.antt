pub mod GivesLaws
pub mod RuleLaws
