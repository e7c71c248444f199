pub mod GiveLaws
pub mod OpenLaws
pub mod TemplateLaws
pub mod DeskCases
pub mod TemplateGiven
