mod ImageFlows
