mod Identities
mod Orders
mod RuleLaws
mod LineLaws
mod PosedShapes
mod SampleLaws
mod DerivationLaws
