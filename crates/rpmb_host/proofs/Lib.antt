pub mod Common
pub mod HandleSteps
