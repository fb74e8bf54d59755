-- Laws, which rest on the definitions of specs/
pub mod Demand
pub mod Passed
pub mod ReportFinds
pub mod ReportLines
pub mod ReportPoints
pub mod TapFinds
pub mod Tests
