-- Laws, which rest on the definitions of specs/
pub mod ReportRead
pub mod ReportRows
pub mod ReportTaps
pub mod RoundTrip
