pub mod DemandLaws
