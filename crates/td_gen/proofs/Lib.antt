pub mod FillerLists
pub mod Made
