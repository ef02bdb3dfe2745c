pub mod LineLaws
pub mod AlmLaws
pub mod BindLaws
pub mod ReportLaws
pub mod ToolSteps
pub mod TextLaws
pub mod ToolsEnded
