pub mod Grouped
pub mod HeadlineRecords
pub mod HostShown
pub mod KnownExchanges
pub mod LinkIs
pub mod LinkWire
pub mod Reported
pub mod ReportedRecords
